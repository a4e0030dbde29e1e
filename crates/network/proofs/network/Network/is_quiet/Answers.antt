use Rattle.std.proofs.Common.{true, false, arith}
use Rattle.layout.specs.State.{network_of}
use Rattle.network.proofs.Opened.{network_sound}
use Rattle.network.proofs.Promising.{quietness}
use Rattle.network.proofs.Quieted.{still_more, still_quiet, not_still}
use Rattle.network.proofs.network.Network.is_quiet.Goals as goal

pub loop-b-init : goal.loop-b-init
loop-b-init c = λ x p q. absurd (omega arith)

pub returns-then-not-is_still : goal.returns-then-not-is_still
returns-then-not-is_still c =
    let n = c.args.self.now in
    let e = c.is_still.ensures in
    let f = c.if-not-is_still.true in
    quietness n.opening n.memory.now (network_sound n) false (not_still n.opening n.memory.now (network_sound n).formed c.loop-b.b c.loop-b.auto.b c.loop-b-test.true cc)

pub loop-b-preserved : goal.loop-b-preserved
loop-b-preserved c =
    let n = c.args.self.now in
    let e = c.is_still.ensures in
    let f = c.if-not-is_still.false in
    still_more n.opening (network_of n.opening n.memory.now) c.loop-b.b c.loop-b.invariant cc

pub returns : goal.returns
returns c =
    let n = c.args.self.now in
    quietness n.opening n.memory.now (network_sound n) true
    (still_quiet n.opening n.memory.now (network_sound n).formed (λ x p q. c.loop-b.invariant x p (omega (arith, c.loop-b-test.false))))
