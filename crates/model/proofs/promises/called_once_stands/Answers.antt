use Rattle.model.proofs.promises.called_once_stands.Goals as goal
use Rattle.model.proofs.Kept.{called_once}

pub returns : goal.returns
returns c = called_once
