use Rattle.model.proofs.examples.suppositions_met_stands.Goals as goal
use Rattle.model.proofs.Example.{met}

pub returns : goal.returns
returns c = met
