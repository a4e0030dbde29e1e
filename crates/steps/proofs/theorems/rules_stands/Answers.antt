use Rattle.steps.proofs.Ruled.{unrefused, refused}
use Rattle.steps.proofs.theorems.rules_stands.Goals as goal

pub returns : goal.returns
returns c = record { done = unrefused; refused = refused }
