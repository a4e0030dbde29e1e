use Rattle.network.proofs.Asked.{deliveries_one, deliveries_lent}
use Rattle.network.proofs.Opened.{network_sound}
use Rattle.network.proofs.network.Network.deliveries.Goals as goal

pub place-at-requires : goal.place-at-requires
place-at-requires c = deliveries_one c.args.self.now.opening

pub returns : goal.returns
returns c =
    let n = c.args.self.now in
    deliveries_lent n.opening n.memory.now (network_sound n).formed _ _ c.place-at.ensures.start c.place-at.ensures.stop
