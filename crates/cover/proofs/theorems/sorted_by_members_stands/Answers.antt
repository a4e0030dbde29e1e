use Rattle.cover.proofs.Order.{sorted_ext}
use Rattle.cover.proofs.theorems.sorted_by_members_stands.Goals as goal

pub returns : goal.returns
returns c = sorted_ext
