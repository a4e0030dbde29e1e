use Rattle.model.proofs.promises.headline_stands.Goals as goal
use Rattle.model.proofs.Kept.{headline}

pub returns : goal.returns
returns c = headline
