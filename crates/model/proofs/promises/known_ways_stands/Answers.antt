use Rattle.model.proofs.promises.known_ways_stands.Goals as goal
use Rattle.model.proofs.Kept.{known_ways}

pub returns : goal.returns
returns c = known_ways
