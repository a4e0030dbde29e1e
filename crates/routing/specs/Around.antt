-- What a broker has learned from those beside it, and when it is ready to tell them what it has to announce.
use Rattle.std.specs.Prelude.{◌≡◌, ℕ, suc, ◌*◌, ◌<◌, ◌≤◌, true, List, map, length}
use Rattle.std.specs.List.{AllByRecursion}
use Rattle.broker.specs.Announcing.{Keeps}
use Rattle.broker.specs.declared.neighbour.Neighbour.{Neighbour}
use Rattle.model.specs.Tree.{neighbours, edge}
use Rattle.model.specs.Model.{Network}
use Rattle.model.specs.Promise.{brokers_behind}
use Rattle.layout.specs.Parts.{tree, filters_room}
use Rattle.layout.specs.State.{network_of, Formed}
use Rattle.layout.specs.declared.opening.Opening.{Opening}

-- these are beside the broker, in the order of telling, each with what was learned from there
pub record Surrounds (o : Opening) (memory : List ℕ) (b : ℕ) (ns : List Neighbour) : Type 0 where
  pub beside : map (λ n. n.broker) ns ≡ neighbours (tree o) b
  pub tables : AllByRecursion (λ n. Keeps (filters_room o) o.ranges ((network_of o memory).learned b n.broker) n.learned.now) ns

-- what the broker has learned from each neighbour is within the bound that the brokers behind it give: R + 1 filters for each
abbrev pub Bounded : Opening → Network → ℕ → Type 0
Bounded o s b = (n : ℕ) → edge (tree o) b n ≡ true → length (s.learned b n) ≤ suc o.subscribers * brokers_behind (tree o) b n

-- the memory holds a network in which the broker can find what it has to announce
pub record Ready (o : Opening) (memory : List ℕ) (b : ℕ) : Type 0 where
  pub there : b < o.brokers
  pub formed : Formed o memory
  pub bounded : Bounded o (network_of o memory) b
