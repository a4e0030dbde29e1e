use Rattle.cover.proofs.Members.{among_maximal}
use Rattle.cover.proofs.Order.{sorted_maximal}
use Rattle.cover.proofs.theorems.maximal_members_stands.Goals as goal

pub returns : goal.returns
returns c = λ fs. (sorted_maximal fs, λ f. among_maximal f fs)
