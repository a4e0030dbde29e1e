use Rattle.cover.proofs.Maximals.{maximal_insert}
use Rattle.cover.proofs.theorems.maximal_by_insert_stands.Goals as goal

pub returns : goal.returns
returns c = maximal_insert
