use Rattle.filter.proofs.Laws.{before_is_less}
use Rattle.filter.proofs.value.Filter.before.Goals as goal

pub returns : goal.returns
returns c = before_is_less c.args.self.bounds c.args.other.bounds c.lt.result c.lt.ensures
