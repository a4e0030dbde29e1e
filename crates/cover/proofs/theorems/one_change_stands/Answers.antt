use Rattle.cover.proofs.Changes.{one_more, one_less}
use Rattle.cover.proofs.theorems.one_change_stands.Goals as goal

pub returns : goal.returns
returns c = record { more = one_more; less = one_less }
