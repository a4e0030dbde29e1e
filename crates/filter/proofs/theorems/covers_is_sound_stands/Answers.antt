use Rattle.filter.proofs.Laws.{covers_matches}
use Rattle.filter.proofs.theorems.covers_is_sound_stands.Goals as goal

pub returns : goal.returns
returns c = covers_matches
