use Rattle.std.proofs.Common.{sym, ◌∙◌}
use Rattle.filter.proofs.Laws.{same_is_equality}
use Rattle.filter.proofs.value.Filter.same.Goals as goal

pub returns : goal.returns
returns c = c.eq.ensures ∙ sym (same_is_equality c.args.self.bounds c.args.other.bounds)
