use Rattle.model.proofs.promises.rest_stands.Goals as goal
use Rattle.model.proofs.Rest.{rest}

pub returns : goal.returns
returns c = rest
