use Rattle.model.proofs.promises.trees_stands.Goals as goal
use Rattle.model.proofs.Tree.{trees}

pub returns : goal.returns
returns c = trees
