use Rattle.cover.proofs.Maximals.{maximal_matches}
use Rattle.cover.proofs.theorems.maximal_match_stands.Goals as goal

pub returns : goal.returns
returns c = maximal_matches
