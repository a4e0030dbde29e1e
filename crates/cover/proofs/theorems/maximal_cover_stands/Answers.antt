use Rattle.cover.proofs.Maximals.{maximal_covers, maximal_any_covers}
use Rattle.cover.proofs.theorems.maximal_cover_stands.Goals as goal

pub returns : goal.returns
returns c = record { each = λ fs f. maximal_covers f fs; same_covered = maximal_any_covers }
