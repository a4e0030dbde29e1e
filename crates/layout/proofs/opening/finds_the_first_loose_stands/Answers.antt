use Rattle.layout.proofs.Openings.{finds_the_first_loose}
use Rattle.layout.proofs.opening.finds_the_first_loose_stands.Goals as goal

pub returns : goal.returns
returns c = finds_the_first_loose
