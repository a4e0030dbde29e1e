use Rattle.model.proofs.promises.order_stands.Goals as goal
use Rattle.model.proofs.Turns.{order}

pub returns : goal.returns
returns c = order
