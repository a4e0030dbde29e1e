use Rattle.broker.proofs.Part.{subscribers_held}
use Rattle.broker.proofs.Kept.{held_kept}
use Rattle.broker.proofs.theorems.one_reading_stands.Goals as goal

pub returns : goal.returns
returns c = record { subscribed = subscribers_held; kept = held_kept }
