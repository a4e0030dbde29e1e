use Rattle.cover.proofs.Maximals.{maximal_part}
use Rattle.cover.proofs.theorems.maximal_of_part_stands.Goals as goal

pub returns : goal.returns
returns c = maximal_part
