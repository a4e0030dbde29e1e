use Rattle.model.proofs.promises.tested_stands.Goals as goal
use Rattle.model.proofs.Decide.{tested}

pub returns : goal.returns
returns c = tested
