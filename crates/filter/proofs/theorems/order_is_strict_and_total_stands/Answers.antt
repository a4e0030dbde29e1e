use Rattle.filter.proofs.Laws.{order_strict_total}
use Rattle.filter.proofs.theorems.order_is_strict_and_total_stands.Goals as goal

pub returns : goal.returns
returns c = order_strict_total
