use Rattle.channel.proofs.Held.{held_once}
use Rattle.channel.proofs.theorems.one_reading_stands.Goals as goal

pub returns : goal.returns
returns c = held_once
