use Rattle.std.proofs.Common.{◌+◌, ◌-◌, ◌^◌, ◌<◌, length}
use Rattle.play.specs.Tally.{total}
use Rattle.play.proofs.Tally.count_all.Given as goal

abbrev pub invariant-loop-command : goal.invariant-loop-command
invariant-loop-command l = total l.self + (length l.reader.input.now - l.reader.at) < 2 ^ 64

abbrev pub decreases-loop-command : goal.decreases-loop-command
decreases-loop-command l = length l.reader.input.now - l.reader.at
