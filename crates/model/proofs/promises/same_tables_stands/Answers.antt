use Rattle.model.proofs.promises.same_tables_stands.Goals as goal
use Rattle.model.proofs.Kept.{same_tables}

pub returns : goal.returns
returns c = same_tables
