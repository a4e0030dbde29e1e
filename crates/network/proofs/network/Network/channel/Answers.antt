use Rattle.routing.proofs.Sendings.{ends_small, link_channel, lent_channel}
use Rattle.network.proofs.Opened.{network_sound}
use Rattle.network.proofs.network.Network.channel.Goals as goal

pub link-requires : goal.link-requires
link-requires c = ends_small c.args.self.now.opening c.args.from c.args.to c.requires

pub place-at-requires : goal.place-at-requires
place-at-requires c = link_channel c.args.self.now.opening c.args.from c.args.to c.link.result c.requires c.link.ensures

pub returns : goal.returns
returns c =
    let n = c.args.self.now in
    lent_channel n.opening n.memory.now (network_sound n).formed c.args.from c.args.to c.requires _ _ _ c.link.ensures c.place-at.ensures.start c.place-at.ensures.stop
