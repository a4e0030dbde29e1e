use Rattle.layout.specs.Plan.{many_of}
use Rattle.steps.proofs.Lent.{lent_subscribers}
use Rattle.network.proofs.Opened.{network_sound}
use Rattle.network.proofs.network.Network.subscribers_at.Goals as goal

pub place-at-requires : goal.place-at-requires
unfolding many_of
place-at-requires c = c.requires

pub returns : goal.returns
returns c =
    let n = c.args.self.now in
    lent_subscribers n.opening n.memory.now (network_sound n).formed c.args.broker _ _ c.requires c.place-at.ensures.start c.place-at.ensures.stop
