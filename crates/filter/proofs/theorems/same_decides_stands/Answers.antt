use Rattle.filter.proofs.Laws.{same_eq, eq_same}
use Rattle.filter.proofs.theorems.same_decides_stands.Goals as goal

pub returns : goal.returns
returns c = λ f g. (same_eq f g, eq_same f g)
