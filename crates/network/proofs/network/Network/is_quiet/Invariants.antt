use Rattle.layout.specs.State.{network_of}
use Rattle.network.proofs.Quieted.{StillBelow}
use Rattle.network.proofs.network.Network.is_quiet.Given as goal

abbrev pub invariant-loop-b : goal.invariant-loop-b
invariant-loop-b l = StillBelow l.self.opening (network_of l.self.opening l.self.memory.now) l.b
