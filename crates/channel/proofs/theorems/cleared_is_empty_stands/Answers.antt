use Rattle.channel.proofs.Held.{cleared_holds}
use Rattle.channel.proofs.theorems.cleared_is_empty_stands.Goals as goal

pub returns : goal.returns
returns c = cleared_holds
