use Rattle.std.proofs.Common.{◌≡◌, ◌<◌}
use Rattle.model.specs.Tree.{hop}
use Rattle.layout.specs.Parts.{tree}
use Rattle.network.proofs.network.asking.towards.Given as goal

-- the way from b to x leads over the same broker as the one to c
abbrev pub invariant-loop-x : goal.invariant-loop-x
invariant-loop-x l = (l.x < l.opening.brokers) × (l.b ≡ l.x → ⊥) × (hop (tree l.opening) l.c l.b ≡ hop (tree l.opening) l.x l.b)

abbrev pub decreases-loop-x : goal.decreases-loop-x
decreases-loop-x l = l.x
