use Rattle.std.proofs.Common.{arith}
use Rattle.layout.proofs.Logged.{delivers_count, delivers_length}
use Rattle.network.proofs.network.Network.delivered.Goals as goal

pub bounds-deliveries-0 : goal.bounds-deliveries-0
bounds-deliveries-0 c = rw (delivers_length _ _ c.deliveries.ensures) (omega arith)

pub returns : goal.returns
returns c = delivers_count _ _ c.deliveries.ensures
