use Rattle.model.proofs.promises.enough_stands.Goals as goal
use Rattle.model.proofs.Fit.{enough}

pub returns : goal.returns
returns c = enough
