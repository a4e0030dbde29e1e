use Rattle.std.proofs.Common.{length}
use Rattle.cover.proofs.Keeping.{Keeping}
use Rattle.cover.proofs.moving.keep_outside.Given as goal

abbrev pub invariant-loop-i : goal.invariant-loop-i
invariant-loop-i l = Keeping l.f (length l.f) l.initial.words l.words l.left l.i
