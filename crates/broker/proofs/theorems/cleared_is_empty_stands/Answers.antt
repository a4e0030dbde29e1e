use Rattle.broker.proofs.Part.{cleared_holds}
use Rattle.broker.proofs.Kept.{cleared_keeps}
use Rattle.broker.proofs.theorems.cleared_is_empty_stands.Goals as goal

pub returns : goal.returns
returns c = record { subscribed = cleared_holds; kept = cleared_keeps }
