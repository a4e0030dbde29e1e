use Rattle.filter.proofs.Laws.{covers_antisym}
use Rattle.filter.proofs.theorems.covers_is_antisymmetric_stands.Goals as goal

pub returns : goal.returns
returns c = covers_antisym
