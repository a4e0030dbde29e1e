use Rattle.model.proofs.promises.wished_stands.Goals as goal
use Rattle.model.proofs.Goes.{wished}

pub returns : goal.returns
returns c = wished
