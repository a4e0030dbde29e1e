use Rattle.std.proofs.Common.{leb, ap, ◌∙◌, arith}
use Rattle.model.specs.Model.{announcement}
use Rattle.layout.specs.Parts.{tree}
use Rattle.layout.specs.State.{network_of}
use Rattle.layout.proofs.Carried.{carries_shape, carries_length, carries_count}
use Rattle.routing.proofs.Room.{filters_few, length_batch}
use Rattle.routing.proofs.Sendings.{ends_small, link_channel, lent_channel}
use Rattle.routing.proofs.telling.has_room.Goals as goal

pub link-requires : goal.link-requires
link-requires c = ends_small c.args.opening.now c.args.broker c.args.n c.requires.beside

pub place-at-requires : goal.place-at-requires
place-at-requires c = link_channel c.args.opening.now c.args.broker c.args.n c.link.result c.requires.beside c.link.ensures

pub count-requires : goal.count-requires
count-requires c =
    let o = c.args.opening.now in
    let k = lent_channel o c.args.memory.now c.requires.ready.formed c.args.broker c.args.n c.requires.beside c.link.result c.place-at.result.at c.place-at.result.end c.link.ensures c.place-at.ensures.start c.place-at.ensures.stop in
    let l = carries_length o.messages o.ranges _ _ k in
    rw l (omega arith)

pub overflow_add-result-2 : goal.overflow_add-result-2
overflow_add-result-2 c =
    let o = c.args.opening.now in
    let k = lent_channel o c.args.memory.now c.requires.ready.formed c.args.broker c.args.n c.requires.beside c.link.result c.place-at.result.at c.place-at.result.end c.link.ensures c.place-at.ensures.start c.place-at.ensures.stop in
    let s = (carries_shape o.messages o.ranges _ _ k).2 in
    let p = c.count.ensures.answer in
    let x = c.new-told.ensures.few.0 in
    let y = c.new-told.ensures.few.1 in
    let f = filters_few o in
    let v = o.valid.3.1 in
    omega arith

pub returns : goal.returns
returns c =
    let o = c.args.opening.now in
    let b = c.args.broker in
    let n = c.args.n in
    let s = network_of o c.args.memory.now in
    let k = lent_channel o c.args.memory.now c.requires.ready.formed b n c.requires.beside c.link.result c.place-at.result.at c.place-at.result.end c.link.ensures c.place-at.ensures.start c.place-at.ensures.stop in
    let p = c.count.ensures.answer ∙ carries_count o.messages o.ranges _ _ k in
    let q = length_batch (s.announced b n) (announcement (tree o) s b n) in
    let x = c.new-told.ensures.counted.0 in
    let y = c.new-told.ensures.counted.1 in
    ap (λ i. leb i o.messages) (omega arith)
