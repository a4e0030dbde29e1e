use Rattle.model.proofs.promises.second_promise_stands.Goals as goal
use Rattle.model.proofs.Kept.{second}

pub returns : goal.returns
returns c = second
