use Rattle.std.proofs.Common.{arith}
use Rattle.std.proofs.lemmas.Bool.Decides.{nat_tests}
use Rattle.filter.proofs.Passes.{covers_shape, covers_pair, covers_end}
use Rattle.filter.proofs.in_place.covers.Goals.{then-low-least-via-then-low-least, then-low-least-via-else-low-least+then-high-greatest}
use Rattle.filter.proofs.in_place.covers.Goals as goal

pub returns-then-outer-inner : goal.returns-then-outer-inner
returns-then-outer-inner c =
    let p = covers_shape c.args.outer.now c.args.inner.now in
    grind arith

pub returns-then-low-least : goal.returns-then-low-least
returns-then-low-least c =
    let p = covers_pair c.loop-wide.wide.now c.loop-wide.narrow.now (grind (arith, nat_tests)) (grind (arith, nat_tests)) in
    elim c.then-low-least.branch [ then-low-least-via-then-low-least w ↦ grind (arith, nat_tests) | then-low-least-via-else-low-least+then-high-greatest w ↦ grind (arith, nat_tests) ]

pub loop-wide-preserved : goal.loop-wide-preserved
loop-wide-preserved c =
    let p = covers_pair c.loop-wide.wide.now c.loop-wide.narrow.now (grind (arith, nat_tests)) (grind (arith, nat_tests)) in
    grind (arith, nat_tests)

pub returns-in_default : goal.returns-in_default
returns-in_default c =
    let p = covers_end c.loop-wide.wide.now c.loop-wide.narrow.now (grind arith) in
    grind (arith, nat_tests)

pub returns-in_default-2 : goal.returns-in_default-2
returns-in_default-2 c =
    let p = covers_end c.loop-wide.wide.now c.loop-wide.narrow.now (grind arith) in
    grind (arith, nat_tests)
