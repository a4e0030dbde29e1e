use Rattle.std.proofs.Common.{◌≡◌, ◌-◌, length, sym, ap, ◌∙◌, arith}
use Rattle.layout.specs.Links.{tree_of}
use Rattle.layout.proofs.Channels.{links}
use Rattle.layout.proofs.Besides.{told, told_few, told_none, told_first, told_push, told_skip, told_all}
use Rattle.layout.proofs.opening.Opening.beside.Goals as goal
use Rattle.layout.proofs.opening.Opening.beside.Goals.{then-broker-gt0, else-broker-gt0, then-from-broker, else-from-broker}

pub loop-k-init : goal.loop-k-init
loop-k-init c =
    let o = c.args.self.now in
    let t = tree_of o.hung (o.brokers - 1) in
    let facts = links o.hung o.brokers (omega arith) o.valid.4 in
    elim c.if-broker-gt0.branch [
      | then-broker-gt0 w ↦
          let u = facts.hung_on c.args.broker (omega arith) (omega arith) in
          rw w.beside-is (told_first t c.args.broker _ _ _ w.if-broker-gt0.true (w.from.ensures ∙ sym u) c.new-beside.ensures w.push.ensures.items)
      | else-broker-gt0 w ↦
          let z : c.args.broker ≡ 0 = omega arith in
          rw (w.beside-is, z, told_none t) c.new-beside.ensures
    ]

pub push-requires-then-from-broker : goal.push-requires-then-from-broker
push-requires-then-from-broker c =
    let o = c.args.self.now in
    let f = told_few (tree_of o.hung (o.brokers - 1)) c.args.broker (c.loop-k.k - 1) in
    (omega arith, omega (arith, ap length c.loop-k.invariant))

pub loop-k-preserved : goal.loop-k-preserved
loop-k-preserved c =
    let o = c.args.self.now in
    let t = tree_of o.hung (o.brokers - 1) in
    let facts = links o.hung o.brokers (omega arith) o.valid.4 in
    let u = facts.hung_on c.loop-k.k c.loop-k.auto.k c.loop-k-test.true in
    elim c.if-from-broker.branch [
      | then-from-broker w ↦
          rw w.beside-is (told_push t c.args.broker c.loop-k.k _ _ c.loop-k.auto.k (u ∙ sym c.from-in-loop-k.ensures ∙ w.if-from-broker.true) c.loop-k.invariant w.push-then-from-broker.ensures.items)
      | else-from-broker w ↦
          let p = told_skip t c.args.broker c.loop-k.k c.loop-k.auto.k (λ e. w.if-from-broker.false (c.from-in-loop-k.ensures ∙ sym u ∙ e)) in
          rw w.beside-is (c.loop-k.invariant ∙ sym p)
    ]

pub returns : goal.returns
returns c =
    let o = c.args.self.now in
    let t = tree_of o.hung (o.brokers - 1) in
    let facts = links o.hung o.brokers (omega arith) o.valid.4 in
    let k : c.loop-k.k - 1 ≡ length t = omega (arith, facts.many) in
    c.loop-k.invariant ∙ ap (told t c.args.broker) k ∙ told_all t c.args.broker
