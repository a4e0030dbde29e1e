use Rattle.std.proofs.Common.{◌≡◌, ◌≤◌}
use Rattle.cover.specs.Maximal.{any_matches}
use Rattle.cover.specs.Rows.{listed}
use Rattle.broker.specs.Announcing.{learned_from}
use Rattle.broker.proofs.Fronts.{Front}
use Rattle.broker.proofs.Forwards.{chosen}
use Rattle.broker.proofs.forwarding.goes_on.Given as goal

abbrev pub invariant-neighbours : goal.invariant-neighbours
invariant-neighbours l = Front (chosen l.m l.neighbours l.from l.notice l.neighbour-index) l.initial.out l.out l.to × (l.to ≤ l.neighbour-index)

-- a filter of the neighbour's table matches the notice just if one of those that are left does
abbrev pub invariant-loop-filter : goal.invariant-loop-filter
invariant-loop-filter l =
    (l.out ≡ l.initial.out) × (l.to ≡ l.initial.to) × (any_matches (listed l.filter-iterator) l.notice ≡ any_matches (learned_from l.m l.neighbour) l.notice)
