use Rattle.cover.proofs.Changes.{between_covers, between_matches}
use Rattle.cover.proofs.theorems.between_keeps_stands.Goals as goal

pub returns : goal.returns
returns c = record { covering = between_covers; matching = between_matches }
