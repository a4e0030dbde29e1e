use Rattle.std.proofs.Common.{◌≡◌, ◌++◌, length, drop}
use Rattle.filter.specs.Filter.{before}
use Rattle.filter.proofs.in_place.before.Given as goal

abbrev pub invariant-loop-left : goal.invariant-loop-left
invariant-loop-left l = (before (l.left ++ drop l.both l.a) (l.right ++ drop l.both l.b) ≡ before l.a l.b) × (length l.left ≡ length l.right)

abbrev pub decreases-loop-left : goal.decreases-loop-left
decreases-loop-left l = length l.left
