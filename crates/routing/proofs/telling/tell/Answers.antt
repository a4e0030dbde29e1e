use Rattle.std.proofs.Common.{◌∙◌}
use Rattle.routing.proofs.Surrounded.{row_edge}
use Rattle.routing.proofs.Told.{told_first, told_last, next_ready, next_room, next_told}
use Rattle.routing.proofs.telling.tell.Goals as goal

pub loop-n-init : goal.loop-n-init
loop-n-init c = told_first c.args.opening.now c.args.memory.now c.args.broker c.requires.ready

pub tell_one-requires : goal.tell_one-requires
tell_one-requires c =
    let o = c.args.opening.now in
    let b = c.args.broker in
    let e = c.as_slice-n-items.ensures.value ∙ c.beside-beside.ensures in
    record {
      ready = next_ready o c.args.memory.now b c.requires.ready c.loop-n.n-index c.loop-n.memory c.loop-n.invariant;
      beside = row_edge o b c.requires.ready.there _ e c.loop-n.n-index c.loop-n-test.true;
      room = rw e (next_room o c.args.memory.now b c.requires.ready c.loop-n.n-index c.loop-n.memory c.loop-n.invariant c.requires.room (rw e at c.loop-n-test.true));
    }

pub loop-n-preserved : goal.loop-n-preserved
loop-n-preserved c =
    let e = c.as_slice-n-items.ensures.value ∙ c.beside-beside.ensures in
    next_told c.args.opening.now c.args.memory.now c.args.broker c.requires.ready c.loop-n.n-index c.loop-n.memory c.loop-n.invariant
    c.tell_one.new.memory (rw e at c.loop-n-test.true) (rw e at c.tell_one.ensures)

pub returns : goal.returns
returns c =
    let e = c.as_slice-n-items.ensures.value ∙ c.beside-beside.ensures in
    told_last c.args.opening.now c.args.memory.now c.args.broker c.requires.ready c.loop-n.n-index c.loop-n.memory c.loop-n.invariant (rw e at c.loop-n-test.false)
