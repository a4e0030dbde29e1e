use Rattle.filter.proofs.Laws.{covers_trans}
use Rattle.filter.proofs.theorems.covers_is_transitive_stands.Goals as goal

pub returns : goal.returns
returns c = covers_trans
