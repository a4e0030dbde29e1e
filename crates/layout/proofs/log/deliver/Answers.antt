use Rattle.std.proofs.Common.{arith}
use Rattle.std.proofs.lemmas.List.{take_all}
use Rattle.layout.proofs.Logged.{delivered_none, delivered_count, delivered_more, delivered_holds}
use Rattle.layout.proofs.log.deliver.Goals as goal

pub loop-subscriber-init : goal.loop-subscriber-init
loop-subscriber-init c = delivered_none c.args.log.now c.args.notice c.args.whom.now (omega arith)

pub push-requires : goal.push-requires
push-requires c =
    let n = delivered_count c.args.log.now c.loop-subscriber.log c.args.whom.now c.args.notice c.loop-subscriber.subscriber-index (omega arith) c.loop-subscriber.invariant in
    (omega arith, omega arith)

pub loop-subscriber-preserved : goal.loop-subscriber-preserved
loop-subscriber-preserved c =
    delivered_more c.args.log.now c.loop-subscriber.log _ c.args.whom.now c.args.notice c.loop-subscriber.subscriber-index (omega arith) (omega arith) c.loop-subscriber.invariant c.push.ensures

pub returns : goal.returns
returns c =
    let t = take_all c.loop-subscriber.subscriber-index c.args.whom.now (omega arith) in
    let words = rw t at c.loop-subscriber.invariant in
    record { words = words; holds = λ hs h. delivered_holds hs c.args.log.now _ c.args.whom.now c.args.notice h (omega arith) words }
