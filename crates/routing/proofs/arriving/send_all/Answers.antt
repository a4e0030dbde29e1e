use Rattle.std.proofs.Common.{get_or, take}
use Rattle.model.proofs.OneByOne.{getD_has}
use Rattle.routing.proofs.Arrivals.{sent_first, next_free, next_sent}
use Rattle.layout.proofs.Encoded.{formed}
use Rattle.routing.proofs.arriving.send_all.Goals as goal

pub loop-n-init : goal.loop-n-init
loop-n-init c =
    let o = c.args.opening.now in
    sent_first o c.args.memory.now c.args.from c.args.number (take o.ranges c.args.notice.numbers) c.args.to.now c.requires.formed

pub send-requires : goal.send-requires
send-requires c =
    let o = c.args.opening.now in
    let to = c.args.to.now in
    let j = c.loop-n.n-index in
    let (beside, room) = c.requires.room (get_or to j 0) (getD_has to j c.loop-n-test.true) in
    record {
      formed = formed o c.loop-n.memory _ c.loop-n.invariant;
      beside = beside;
      room = next_free o c.args.memory.now c.args.from c.args.number (take o.ranges c.args.notice.numbers) to j c.loop-n.memory c.loop-n.invariant c.requires.apart c.loop-n-test.true room;
    }

pub loop-n-preserved : goal.loop-n-preserved
loop-n-preserved c =
    let o = c.args.opening.now in
    next_sent o c.args.memory.now c.args.from c.args.number (take o.ranges c.args.notice.numbers) c.args.to.now c.loop-n.n-index c.loop-n.memory c.loop-n.invariant
    c.send.new.memory c.loop-n-test.true c.send.ensures
