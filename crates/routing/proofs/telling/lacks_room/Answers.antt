use Rattle.std.proofs.Common.{get_or, sym, ap, ◌∙◌}
use Rattle.model.specs.Tree.{neighbours}
use Rattle.layout.specs.Parts.{tree}
use Rattle.layout.specs.State.{network_of}
use Rattle.routing.specs.Rooms.{ok_unless, tidings}
use Rattle.routing.proofs.Room.{full_next, full_here, full_done}
use Rattle.routing.proofs.Surrounded.{row_edge}
use Rattle.routing.proofs.telling.lacks_room.Goals as goal

pub has_room-requires-clause-beside : goal.has_room-requires-clause-beside
has_room-requires-clause-beside c =
    row_edge c.args.opening.now c.args.broker c.requires.there _ (c.as_slice-n-items.ensures.value ∙ c.beside-beside.ensures) c.loop-n.n-index c.loop-n-test.true

pub returns-then-not-has_room : goal.returns-then-not-has_room
returns-then-not-has_room c =
    let o = c.args.opening.now in
    let s = network_of o c.args.memory.now in
    let b = c.args.broker in
    let e = c.as_slice-n-items.ensures.value ∙ c.beside-beside.ensures in
    let f = full_here o.messages (s.channel b) (tidings (tree o) s b) (neighbours (tree o) b) c.loop-n.n-index _ (rw e at c.loop-n-test.true) (ap (λ ns. get_or ns c.loop-n.n-index 0) e) c.if-not-has_room.ensures in
    ap (λ r. ok_unless r tt) (sym f ∙ c.loop-n.invariant)

pub loop-n-preserved : goal.loop-n-preserved
loop-n-preserved c =
    let o = c.args.opening.now in
    let s = network_of o c.args.memory.now in
    let b = c.args.broker in
    let e = c.as_slice-n-items.ensures.value ∙ c.beside-beside.ensures in
    let f = full_next o.messages (s.channel b) (tidings (tree o) s b) (neighbours (tree o) b) c.loop-n.n-index _ (rw e at c.loop-n-test.true) (ap (λ ns. get_or ns c.loop-n.n-index 0) e) c.if-not-has_room.ensures in
    sym f ∙ c.loop-n.invariant

pub returns : goal.returns
returns c =
    let o = c.args.opening.now in
    let s = network_of o c.args.memory.now in
    let b = c.args.broker in
    let e = c.as_slice-n-items.ensures.value ∙ c.beside-beside.ensures in
    let f = full_done o.messages (s.channel b) (tidings (tree o) s b) (neighbours (tree o) b) c.loop-n.n-index (rw e at c.loop-n-test.false) in
    ap (λ r. ok_unless r tt) (sym f ∙ c.loop-n.invariant)
