use Rattle.std.proofs.Common.{arith}
use Rattle.layout.proofs.Logged.{delivers_read, delivers_length, delivers_count}
use Rattle.network.proofs.network.Network.delivery.Goals as goal

pub delivery_at-requires : goal.delivery_at-requires
delivery_at-requires c =
    let l = c.deliveries.ensures in
    let f = l.fits in
    let k = delivers_count _ _ l in
    (delivers_length _ _ l, omega (arith, k, f))

pub returns : goal.returns
returns c =
    let r = delivers_read _ _ c.deliveries.ensures in
    rw r at c.delivery_at.ensures
