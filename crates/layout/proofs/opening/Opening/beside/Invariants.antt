use Rattle.std.proofs.Common.{◌≡◌, ◌-◌}
use Rattle.layout.specs.Links.{tree_of}
use Rattle.layout.proofs.Besides.{told}
use Rattle.layout.proofs.opening.Opening.beside.Given as goal

abbrev pub invariant-loop-k : goal.invariant-loop-k
invariant-loop-k l = l.beside.items ≡ told (tree_of l.self.hung (l.self.brokers - 1)) l.broker (l.k - 1)
