use Rattle.model.proofs.promises.quiet_known_stands.Goals as goal
use Rattle.model.proofs.Kept.{quiet_known_stands}

pub returns : goal.returns
returns c = quiet_known_stands
