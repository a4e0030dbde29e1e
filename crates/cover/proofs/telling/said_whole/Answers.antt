use Rattle.std.proofs.Common.{arith}
use Rattle.std.proofs.lemmas.Bool.Decides.{nat_tests}
use Rattle.cover.specs.Entry.{said_whole}
use Rattle.cover.proofs.telling.said_whole.Goals as goal

pub returns-then-said-lt1 : goal.returns-then-said-lt1
unfolding said_whole
returns-then-said-lt1 c = grind (arith, nat_tests)

pub returns : goal.returns
unfolding said_whole
returns c = grind (arith, nat_tests)
