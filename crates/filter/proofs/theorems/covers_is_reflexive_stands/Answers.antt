use Rattle.std.proofs.Common.{arith}
use Rattle.filter.proofs.Laws.{covers_refl}
use Rattle.filter.proofs.theorems.covers_is_reflexive_stands.Goals as goal

pub returns : goal.returns
returns c = λ m f h. covers_refl f (omega arith)
