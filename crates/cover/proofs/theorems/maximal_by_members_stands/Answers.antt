use Rattle.cover.proofs.Maximals.{maximal_same_members}
use Rattle.cover.proofs.theorems.maximal_by_members_stands.Goals as goal

pub returns : goal.returns
returns c = maximal_same_members
