use Rattle.std.proofs.Common.{sym, ap, arith}
use Rattle.layout.proofs.Logged.{deliveries_count, delivery_is}
use Rattle.layout.proofs.log.delivery_at.Goals as goal

pub returns-then-i-log : goal.returns-then-i-log
returns-then-i-log c =
    let n = deliveries_count c.args.log.now in
    let d = delivery_is c.args.log.now c.args.i (omega arith) in
    (omega arith, sym (ap (λ h. h.what) d), sym (ap (λ h. h.whom) d))

pub returns-else-i-log : goal.returns-else-i-log
returns-else-i-log c = omega (arith, deliveries_count c.args.log.now)
