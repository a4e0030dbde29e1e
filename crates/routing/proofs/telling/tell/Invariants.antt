use Rattle.std.proofs.Common.{take}
use Rattle.model.specs.Tree.{neighbours}
use Rattle.model.specs.Turn.{told_to}
use Rattle.layout.specs.Parts.{tree}
use Rattle.layout.specs.State.{network_of, Encodes}
use Rattle.routing.proofs.telling.tell.Given as goal

-- the memory holds the network in which the broker has told the first of its neighbours
abbrev pub invariant-loop-n : goal.invariant-loop-n
invariant-loop-n l = Encodes l.opening l.memory (told_to (tree l.opening) l.broker (take l.n-index (neighbours (tree l.opening) l.broker)) (network_of l.opening l.initial.memory))
