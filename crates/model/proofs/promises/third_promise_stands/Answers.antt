use Rattle.model.proofs.promises.third_promise_stands.Goals as goal
use Rattle.model.proofs.Kept.{third}

pub returns : goal.returns
returns c = third
