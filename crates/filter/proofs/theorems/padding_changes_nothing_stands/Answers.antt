use Rattle.filter.proofs.Padding.{padding_changes_nothing}
use Rattle.filter.proofs.theorems.padding_changes_nothing_stands.Goals as goal

pub returns : goal.returns
returns c = padding_changes_nothing
