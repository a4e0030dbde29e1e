use Rattle.std.proofs.Common.{take}
use Rattle.model.specs.Turn.{sent_to}
use Rattle.layout.specs.State.{network_of, Encodes}
use Rattle.routing.proofs.arriving.send_all.Given as goal

-- the memory holds the network in which the broker has sent the notice on to the first j of the list
abbrev pub invariant-loop-n : goal.invariant-loop-n
invariant-loop-n l = Encodes l.opening l.memory (sent_to l.from l.number (take l.opening.ranges l.notice.numbers) (take l.n-index l.to) (network_of l.opening l.initial.memory))
