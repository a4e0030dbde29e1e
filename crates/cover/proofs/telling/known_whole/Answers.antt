use Rattle.std.proofs.Common.{arith}
use Rattle.std.proofs.lemmas.Bool.Decides.{nat_tests}
use Rattle.cover.specs.Entry.{known_whole}
use Rattle.cover.proofs.telling.known_whole.Goals as goal

pub returns-then-known-lt2 : goal.returns-then-known-lt2
unfolding known_whole
returns-then-known-lt2 c = grind (arith, nat_tests)

pub returns : goal.returns
unfolding known_whole
returns c = grind (arith, nat_tests)
