-- The network that lent memory holds.
use Rattle.std.specs.Prelude.{◌≡◌, ℕ, ◌*◌, ◌<◌, ◌≤◌, true, false, cond, List, [], length, nat_lt}
use Rattle.cover.specs.Table.{held}
use Rattle.broker.specs.Subscribers.{Holds, subscribers as subscribers_in}
use Rattle.broker.specs.Announcing.{Keeps}
use Rattle.model.specs.Tree.{edge}
use Rattle.model.specs.Model.{Network}
use Rattle.layout.specs.Plan.{words_of}
use Rattle.layout.specs.Parts.{tree, plan_of, filters_room, subscribers_part, arrived_part, announced_part, learned_part, channel_part, posted_part, deliveries_part}
use Rattle.layout.specs.Logs.{numbers, Lists, deliveries as deliveries_in, Delivers}
use Rattle.layout.specs.Mail.{under_way, Carries}
use Rattle.layout.specs.declared.opening.Opening.{Opening}

-- the network that is read from the parts of a memory; there is nothing at brokers that there are not, and nothing between brokers that do not hang
-- together
unfoldable pub network_of : Opening → List ℕ → Network
network_of o memory =
    record {
      subscribers = λ b. cond (nat_lt b o.brokers) (subscribers_in o.ranges (subscribers_part o memory b)) [];
      learned = λ b a. cond (edge (tree o) a b) (held (2 * o.ranges) (learned_part o memory a b)) [];
      announced = λ a b. cond (edge (tree o) a b) (held (2 * o.ranges) (announced_part o memory a b)) [];
      channel = λ a b. cond (edge (tree o) a b) (under_way o.messages o.ranges (channel_part o memory a b)) [];
      posted = numbers (posted_part o memory);
      arrived = λ b. cond (nat_lt b o.brokers) (numbers (arrived_part o memory b)) [];
      deliveries = deliveries_in (deliveries_part o memory);
    }

-- a memory holds this network, word for word: each part holds what it is for and nothing else, and words that are not in use are zero
pub record Encodes (o : Opening) (memory : List ℕ) (s : Network) : Type 0 where
  pub whole : words_of (plan_of o) ≤ length memory
  pub subscribers : (b : ℕ) → b < o.brokers → Holds o.subscribers o.ranges (s.subscribers b) (subscribers_part o memory b)
  pub arrived : (b : ℕ) → b < o.brokers → Lists (s.arrived b) (arrived_part o memory b)
  pub announced : (a b : ℕ) → edge (tree o) a b ≡ true → Keeps (filters_room o) o.ranges (s.announced a b) (announced_part o memory a b)
  pub learned : (a b : ℕ) → edge (tree o) a b ≡ true → Keeps (filters_room o) o.ranges (s.learned b a) (learned_part o memory a b)
  pub channel : (a b : ℕ) → edge (tree o) a b ≡ true → Carries o.messages o.ranges (s.channel a b) (channel_part o memory a b)
  pub posted : Lists s.posted (posted_part o memory)
  pub deliveries : Delivers s.deliveries (deliveries_part o memory)
  pub no_broker : (b : ℕ) → nat_lt b o.brokers ≡ false → (s.subscribers b ≡ []) × (s.arrived b ≡ [])
  pub no_link : (a b : ℕ) → edge (tree o) a b ≡ false → (s.announced a b ≡ []) × (s.learned b a ≡ []) × (s.channel a b ≡ [])

-- a memory holds the network that is read from it
abbrev pub Formed : Opening → List ℕ → Type 0
Formed o memory = Encodes o memory (network_of o memory)
