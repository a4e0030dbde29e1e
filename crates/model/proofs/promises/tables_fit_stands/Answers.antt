use Rattle.model.proofs.promises.tables_fit_stands.Goals as goal
use Rattle.model.proofs.Fit.{fit}

pub returns : goal.returns
returns c = fit
