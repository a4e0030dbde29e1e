-- The parts of a network's memory, by what they hold.
use Rattle.std.specs.Prelude.{ℕ, ◌+◌, ◌-◌, ◌*◌, List}
use Rattle.model.specs.Tree.{Tree}
use Rattle.layout.specs.Links.{tree_of, link}
use Rattle.layout.specs.Plan.{Plan, part}
use Rattle.layout.specs.Memory.{plan}
use Rattle.layout.specs.declared.opening.Opening.{Opening}

-- the opening's tree of brokers, and how its memory is divided
abbrev pub tree : Opening → Tree
tree o = tree_of o.hung (o.brokers - 1)

abbrev pub plan_of : Opening → Plan
plan_of o = plan o.ranges o.brokers o.subscribers o.messages

-- how many filters each of its tables has room for
abbrev pub filters_room : Opening → ℕ
filters_room o = (o.brokers - 1) * (o.subscribers + 1)

-- the subscribers of a broker, and the numbers of the notices that have arrived there
abbrev pub subscribers_part : Opening → List ℕ → (broker : ℕ) → List ℕ
subscribers_part o memory b = part (plan_of o) memory 0 b

abbrev pub arrived_part : Opening → List ℕ → (broker : ℕ) → List ℕ
arrived_part o memory b = part (plan_of o) memory 1 b

-- what the first broker announced last to the second beside it
abbrev pub announced_part : Opening → List ℕ → (from to : ℕ) → List ℕ
announced_part o memory a b = part (plan_of o) memory 2 (link a b)

-- what the second broker has learned from the first beside it
abbrev pub learned_part : Opening → List ℕ → (from to : ℕ) → List ℕ
learned_part o memory a b = part (plan_of o) memory 3 (link a b)

-- what is under way from the first broker to the second beside it
abbrev pub channel_part : Opening → List ℕ → (from to : ℕ) → List ℕ
channel_part o memory a b = part (plan_of o) memory 4 (link a b)

-- the numbers of the notices that were posted, and the deliveries
abbrev pub posted_part : Opening → List ℕ → List ℕ
posted_part o memory = part (plan_of o) memory 5 0

abbrev pub deliveries_part : Opening → List ℕ → List ℕ
deliveries_part o memory = part (plan_of o) memory 6 0
