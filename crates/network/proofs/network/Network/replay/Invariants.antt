use Rattle.model.specs.Promise.{covering}
use Rattle.layout.specs.Parts.{filters_room}
use Rattle.layout.specs.State.{network_of}
use Rattle.network.proofs.Replayed.{Replaying}
use Rattle.network.proofs.network.Network.replay.Given as goal

abbrev pub invariant-loop-i : goal.invariant-loop-i
invariant-loop-i l =
    Replaying (filters_room l.self.opening) l.self.opening.ranges (covering l.filter) ((network_of l.self.opening l.self.memory.now).channel l.from l.to)
    ((network_of l.self.opening l.self.memory.now).learned l.to l.from) l.i l.table
