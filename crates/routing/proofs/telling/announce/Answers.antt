use Rattle.std.proofs.Common.{sym, ◌∙◌}
use Rattle.broker.proofs.Kept.{length_kept}
use Rattle.routing.proofs.Sendings.{ends_small, link_announced, lent_announced, announced_now}
use Rattle.routing.proofs.telling.announce.Goals as goal

pub link-requires : goal.link-requires
link-requires c = ends_small c.args.opening.now c.args.from c.args.to c.requires.beside

pub place-at-requires : goal.place-at-requires
place-at-requires c = link_announced c.args.opening.now c.args.from c.args.to c.link.result c.requires.beside c.link.ensures

pub copy_from_slice-requires : goal.copy_from_slice-requires
copy_from_slice-requires c =
    let k = lent_announced c.args.opening.now c.args.memory.now c.requires.formed c.args.from c.args.to c.requires.beside c.link.result c.place-at.result.at c.place-at.result.end c.link.ensures c.place-at.ensures.start c.place-at.ensures.stop in
    length_kept _ _ _ _ k ∙ sym (length_kept _ _ _ _ c.requires.table)

pub returns : goal.returns
returns c =
    announced_now c.args.opening.now c.args.memory.now c.requires.formed c.args.from c.args.to c.requires.beside c.link.result c.place-at.result.at c.place-at.result.end c.link.ensures c.place-at.ensures.start c.place-at.ensures.stop
    _ c.args.table.now c.copy_from_slice.new.self c.requires.table c.copy_from_slice.ensures.after
