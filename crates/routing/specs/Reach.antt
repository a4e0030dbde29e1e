-- Where a notice goes from a broker.
use Rattle.std.specs.Prelude.{◌≡◌, ℕ, ◌≤◌, length, take, slice_index}
use Rattle.filter.specs.Filter.{Notice}
use Rattle.broker.specs.Subscribers.{reached}
use Rattle.broker.specs.Forwarding.{wanting}
use Rattle.model.specs.Tree.{neighbours}
use Rattle.model.specs.Model.{Network}
use Rattle.layout.specs.Parts.{tree}
use Rattle.layout.specs.declared.opening.Opening.{Opening}
use Rattle.routing.specs.declared.reach.Reach.{Reach}

-- a notice that came to b from `from` goes on to those of the list, and is delivered to those of the other
pub record Reaches (o : Opening) (s : Network) (b from : ℕ) (e : Notice) (r : Reach) : Type 0 where
  pub few : (r.on ≤ length r.to) × (r.many ≤ length r.whom)
  pub on : take r.on r.to ≡ wanting (λ j. s.learned b (slice_index (neighbours (tree o) b) j)) (neighbours (tree o) b) from e (length (neighbours (tree o) b))
  pub whom : take r.many r.whom ≡ reached e (s.subscribers b)
