use Rattle.std.proofs.Common.{◌≡◌, ◌+◌, ◌*◌, ◌≤◌, ℕ, List, ◌++◌, map, length}
use Rattle.cover.specs.Table.{held}
use Rattle.cover.specs.Rows.{listed}
use Rattle.broker.specs.Subscribers.{subscriber, reached}
use Rattle.broker.proofs.Fronts.{Front}
use Rattle.broker.proofs.subscribers.deliver.Given as goal

abbrev pub invariant-loop-slot : goal.invariant-loop-slot
invariant-loop-slot l =
    (done : List (List ℕ))
    × (done ++ listed l.slot-iterator ≡ held (1 + 2 * l.m) l.part)
    × Front (reached l.notice (map subscriber done)) l.initial.out l.out l.to
    × (l.to ≤ length done)
