use Rattle.std.proofs.Common.{◌≡◌, ◌*◌, ◌%◌, ◌≤◌, length}
use Rattle.filter.specs.Filter.{matches}
use Rattle.filter.proofs.in_place.matches.Given as goal

-- there stays a number for each range, so the ranges come to their end first
abbrev pub invariant-loop-ranges : goal.invariant-loop-ranges
invariant-loop-ranges l = (matches l.ranges l.numbers ≡ matches l.filter l.notice) × ((length l.ranges % 2 ≡ 0) × (length l.ranges ≤ 2 * length l.numbers))

abbrev pub decreases-loop-ranges : goal.decreases-loop-ranges
decreases-loop-ranges l = length l.ranges
