use Rattle.std.proofs.Common.{ap, ◌∙◌, is_ok}
use Rattle.std.proofs.lemmas.Bool.{cond-true}
use Rattle.layout.proofs.Carried.{carries_shape}
use Rattle.routing.proofs.Sendings.{ends_small, lets_some, link_channel, lent_channel, sent}
use Rattle.routing.proofs.telling.send.Goals as goal

pub link-requires : goal.link-requires
link-requires c = ends_small c.args.opening.now c.args.from c.args.to c.requires.beside

pub place-at-requires : goal.place-at-requires
place-at-requires c = link_channel c.args.opening.now c.args.from c.args.to c.link.result c.requires.beside c.link.ensures

pub append_all-requires : goal.append_all-requires
append_all-requires c =
    let o = c.args.opening.now in
    let q = lent_channel o c.args.memory.now c.requires.formed c.args.from c.args.to c.requires.beside c.link.result c.place-at.result.at c.place-at.result.end c.link.ensures c.place-at.ensures.start c.place-at.ensures.stop in
    record { shape = (o.valid.0.1, carries_shape o.messages o.ranges _ _ q); wide = c.requires.wide }

pub unwrap-requires : goal.unwrap-requires
unwrap-requires c =
    let o = c.args.opening.now in
    let q = lent_channel o c.args.memory.now c.requires.formed c.args.from c.args.to c.requires.beside c.link.result c.place-at.result.at c.place-at.result.end c.link.ensures c.place-at.ensures.start c.place-at.ensures.stop in
    ap is_ok (c.append_all.ensures.answer ∙ cond-true _ _ _ (lets_some _ _ _ _ q _ c.requires.room))

pub returns : goal.returns
returns c =
    sent c.args.opening.now c.args.memory.now c.requires.formed c.args.from c.args.to c.requires.beside c.link.result c.place-at.result.at c.place-at.result.end c.link.ensures c.place-at.ensures.start c.place-at.ensures.stop
    c.args.change c.args.filters c.append_all.new.channel c.requires.wide c.requires.room c.append_all.ensures.holds
