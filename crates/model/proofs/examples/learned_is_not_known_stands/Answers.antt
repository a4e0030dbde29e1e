use Rattle.model.proofs.examples.learned_is_not_known_stands.Goals as goal
use Rattle.model.proofs.Example.{not_enough}

pub returns : goal.returns
returns c = not_enough
