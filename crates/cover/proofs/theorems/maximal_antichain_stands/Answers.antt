use Rattle.cover.proofs.Maximals.{maximal_antichain}
use Rattle.cover.proofs.theorems.maximal_antichain_stands.Goals as goal

pub returns : goal.returns
returns c = λ fs f g. maximal_antichain f g fs
