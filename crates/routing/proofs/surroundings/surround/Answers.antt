use Rattle.std.proofs.Common.{refl, ◌∙◌, arith}
use Rattle.layout.specs.Plan.{many_of}
use Rattle.routing.proofs.Surrounded.{row_edge, row_back, table_kept, found_more}
use Rattle.layout.proofs.Written.{edge_brokers, link_within_o}
use Rattle.routing.proofs.surroundings.surround.Goals as goal

pub link-requires : goal.link-requires
link-requires c =
    let o = c.args.opening.now in
    let e = row_back o c.args.broker c.requires.there _ (c.as_slice-neighbour-items.ensures.value ∙ c.beside-beside.ensures) c.loop-neighbour.neighbour-index c.loop-neighbour-test.true in
    let w = edge_brokers o _ c.args.broker e in
    let v = o.valid.1.1 in
    (omega arith, omega arith)

pub place-at-requires : goal.place-at-requires
unfolding many_of
place-at-requires c =
    let o = c.args.opening.now in
    let beside = c.as_slice-neighbour-items.ensures.value ∙ c.beside-beside.ensures in
    let to = link_within_o o _ _ (row_edge o c.args.broker c.requires.there _ beside c.loop-neighbour.neighbour-index c.loop-neighbour-test.true) in
    let back = link_within_o o _ _ (row_back o c.args.broker c.requires.there _ beside c.loop-neighbour.neighbour-index c.loop-neighbour-test.true) in
    omega (arith, c.link.ensures)

pub loop-neighbour-preserved : goal.loop-neighbour-preserved
loop-neighbour-preserved c =
    let o = c.args.opening.now in
    let beside = c.as_slice-neighbour-items.ensures.value ∙ c.beside-beside.ensures in
    let k = table_kept o c.args.broker c.requires.there _ beside c.loop-neighbour.neighbour-index c.loop-neighbour-test.true c.args.memory.now c.requires.formed _ _ _ c.link.ensures c.place-at.ensures.start c.place-at.ensures.stop in
    found_more o c.args.broker c.requires.there _ beside c.loop-neighbour.neighbour-index c.loop-neighbour-test.true _ _ _ _ refl c.loop-neighbour.invariant k c.push.ensures.items
