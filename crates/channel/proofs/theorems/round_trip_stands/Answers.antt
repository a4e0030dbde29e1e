use Rattle.channel.proofs.Words.{round_trip}
use Rattle.channel.proofs.theorems.round_trip_stands.Goals as goal

pub returns : goal.returns
returns c = round_trip
