use Rattle.std.proofs.Common.{◌≡◌, take}
use Rattle.script.specs.Script.{numbers_at}
use Rattle.script.proofs.numbers.read_numbers.Given as goal

abbrev pub invariant-loop-k : goal.invariant-loop-k
invariant-loop-k l = take l.k l.numbers ≡ numbers_at l.k l.input l.at
