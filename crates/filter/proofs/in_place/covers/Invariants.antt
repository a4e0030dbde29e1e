use Rattle.std.proofs.Common.{◌≡◌, ◌%◌, length}
use Rattle.filter.specs.Filter.{covers}
use Rattle.filter.proofs.in_place.covers.Given as goal

-- the rows stay of one length, an even one, so both come to their end at once
abbrev pub invariant-loop-wide : goal.invariant-loop-wide
invariant-loop-wide l = (covers l.wide l.narrow ≡ covers l.outer l.inner) × ((length l.wide ≡ length l.narrow) × (length l.wide % 2 ≡ 0))

abbrev pub decreases-loop-wide : goal.decreases-loop-wide
decreases-loop-wide l = length l.wide
