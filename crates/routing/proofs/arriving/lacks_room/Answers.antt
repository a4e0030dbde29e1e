use Rattle.std.proofs.Common.{◌+◌, [], ◌∷◌, length, get_or, sym, refl, ap, ◌∙◌, arith}
use Rattle.std.proofs.lemmas.Bool.{le-leb, lt-leb}
use Rattle.model.specs.Model.{notice}
use Rattle.model.proofs.OneByOne.{getD_has}
use Rattle.layout.specs.State.{network_of}
use Rattle.layout.proofs.Carried.{carries_length, carries_count}
use Rattle.routing.specs.Rooms.{ok_unless}
use Rattle.routing.proofs.Room.{full_next, full_here, full_done}
use Rattle.routing.proofs.Sendings.{ends_small, link_channel, lent_channel}
use Rattle.routing.proofs.arriving.lacks_room.Goals as goal

pub link-requires : goal.link-requires
link-requires c =
    let to = c.args.to.now in
    let j = c.loop-n.n-index in
    ends_small c.args.opening.now c.args.broker (get_or to j 0) (c.requires.beside (get_or to j 0) (getD_has to j c.loop-n-test.true))

pub place-at-requires : goal.place-at-requires
place-at-requires c =
    let to = c.args.to.now in
    let j = c.loop-n.n-index in
    link_channel c.args.opening.now c.args.broker (get_or to j 0) c.link.result (c.requires.beside (get_or to j 0) (getD_has to j c.loop-n-test.true)) c.link.ensures

pub count-requires : goal.count-requires
count-requires c =
    let o = c.args.opening.now in
    let to = c.args.to.now in
    let j = c.loop-n.n-index in
    let g = c.requires.beside (get_or to j 0) (getD_has to j c.loop-n-test.true) in
    let k = lent_channel o c.args.memory.now c.requires.formed c.args.broker (get_or to j 0) g c.link.result c.place-at.result.at c.place-at.result.end c.link.ensures c.place-at.ensures.start c.place-at.ensures.stop in
    let l = carries_length o.messages o.ranges _ _ k in
    rw l (omega arith)

pub returns-then-count-opening : goal.returns-then-count-opening
returns-then-count-opening c = λ k e.
    let o = c.args.opening.now in
    let s = network_of o c.args.memory.now in
    let b = c.args.broker in
    let to = c.args.to.now in
    let j = c.loop-n.n-index in
    let n = get_or to j 0 in
    let g = c.requires.beside n (getD_has to j c.loop-n-test.true) in
    let x = lent_channel o c.args.memory.now c.requires.formed b n g c.link.result c.place-at.result.at c.place-at.result.end c.link.ensures c.place-at.ensures.start c.place-at.ensures.stop in
    let p = c.count.ensures.answer ∙ carries_count o.messages o.ranges _ _ x in
    let t = c.if-count-opening.true in
    let f = full_here o.messages (s.channel b) (λ m. notice k e ∷ []) to j n c.loop-n-test.true refl (sym (lt-leb (length (s.channel b n) + 1) o.messages (omega arith))) in
    ap (λ r. ok_unless r tt) (sym f ∙ c.loop-n.invariant k e)

pub loop-n-preserved : goal.loop-n-preserved
loop-n-preserved c = λ k e.
    let o = c.args.opening.now in
    let s = network_of o c.args.memory.now in
    let b = c.args.broker in
    let to = c.args.to.now in
    let j = c.loop-n.n-index in
    let n = get_or to j 0 in
    let g = c.requires.beside n (getD_has to j c.loop-n-test.true) in
    let x = lent_channel o c.args.memory.now c.requires.formed b n g c.link.result c.place-at.result.at c.place-at.result.end c.link.ensures c.place-at.ensures.start c.place-at.ensures.stop in
    let p = c.count.ensures.answer ∙ carries_count o.messages o.ranges _ _ x in
    let t = c.if-count-opening.false in
    let f = full_next o.messages (s.channel b) (λ m. notice k e ∷ []) to j n c.loop-n-test.true refl (sym (le-leb (length (s.channel b n) + 1) o.messages (omega arith))) in
    sym f ∙ c.loop-n.invariant k e

pub returns : goal.returns
returns c = λ k e.
    let o = c.args.opening.now in
    let s = network_of o c.args.memory.now in
    let f = full_done o.messages (s.channel c.args.broker) (λ m. notice k e ∷ []) c.args.to.now c.loop-n.n-index c.loop-n-test.false in
    ap (λ r. ok_unless r tt) (sym f ∙ c.loop-n.invariant k e)
