use Rattle.layout.proofs.Carried.{carries_shape}
use Rattle.routing.proofs.Sendings.{ends_small, link_channel, lent_channel}
use Rattle.steps.proofs.Taken.{taken_off}
use Rattle.steps.proofs.commands.carrying.take_oldest.Goals as goal

pub link-requires : goal.link-requires
link-requires c = ends_small c.args.opening.now c.args.from c.args.to c.requires.beside

pub place-at-requires : goal.place-at-requires
place-at-requires c = link_channel c.args.opening.now c.args.from c.args.to c.link.result c.requires.beside c.link.ensures

pub take-requires : goal.take-requires
take-requires c =
    let o = c.args.opening.now in
    let k = lent_channel o c.args.memory.now c.requires.formed c.args.from c.args.to c.requires.beside c.link.result c.place-at.result.at c.place-at.result.end c.link.ensures c.place-at.ensures.start c.place-at.ensures.stop in
    (o.valid.0.1, carries_shape o.messages o.ranges _ _ k)

pub returns : goal.returns
returns c =
    taken_off c.args.opening.now c.args.memory.now c.requires.formed c.args.from c.args.to c.requires.beside c.link.result c.place-at.result.at c.place-at.result.end c.link.ensures c.place-at.ensures.start c.place-at.ensures.stop
    c.take.new.channel (λ begin x xs k. (c.take.ensures.holds begin x xs k).1)
