use Rattle.model.proofs.examples.worked_example_stands.Goals as goal
use Rattle.model.proofs.Example.{worked}

pub returns : goal.returns
returns c = worked
