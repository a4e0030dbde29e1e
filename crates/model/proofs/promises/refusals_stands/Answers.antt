use Rattle.model.proofs.promises.refusals_stands.Goals as goal
use Rattle.model.proofs.Turns.{refusals}

pub returns : goal.returns
returns c = refusals
