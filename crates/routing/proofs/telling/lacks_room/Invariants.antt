use Rattle.std.proofs.Common.{◌≡◌, drop}
use Rattle.model.specs.Tree.{neighbours}
use Rattle.layout.specs.Parts.{tree}
use Rattle.layout.specs.State.{network_of}
use Rattle.routing.specs.Rooms.{full, tidings, no_room_to_tell}
use Rattle.routing.proofs.telling.lacks_room.Given as goal

-- the neighbours that are left give the answer
abbrev pub invariant-loop-n : goal.invariant-loop-n
invariant-loop-n l =
    full l.opening.messages ((network_of l.opening l.memory).channel l.broker) (tidings (tree l.opening) (network_of l.opening l.memory) l.broker) (drop l.n-index (neighbours (tree l.opening) l.broker))
    ≡ no_room_to_tell l.opening (network_of l.opening l.memory) l.broker
