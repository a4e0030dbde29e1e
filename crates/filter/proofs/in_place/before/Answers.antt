use Rattle.std.proofs.Common.{drop, arith}
use Rattle.std.proofs.lemmas.List.{length-drop}
use Rattle.std.proofs.lemmas.Bool.Decides.{nat_tests}
use Rattle.filter.proofs.Passes.{before_pair, before_end}
use Rattle.filter.proofs.in_place.before.Goals as goal

pub returns-then-x-y : goal.returns-then-x-y
returns-then-x-y c =
    let p = before_pair c.loop-left.left.now c.loop-left.right.now (drop c.min-both.result c.args.a.now) (drop c.min-both.result c.args.b.now) (grind (arith, nat_tests)) (grind (arith, nat_tests)) in
    grind (arith, nat_tests)

pub loop-left-preserved : goal.loop-left-preserved
loop-left-preserved c =
    let p = before_pair c.loop-left.left.now c.loop-left.right.now (drop c.min-both.result c.args.a.now) (drop c.min-both.result c.args.b.now) (grind (arith, nat_tests)) (grind (arith, nat_tests)) in
    grind (arith, nat_tests)

pub returns : goal.returns
returns c =
    let m = length-drop c.min-both.result c.args.a.now in
    let n = length-drop c.min-both.result c.args.b.now in
    let p = before_end c.loop-left.left.now c.loop-left.right.now (drop c.min-both.result c.args.a.now) (drop c.min-both.result c.args.b.now) (grind arith) (grind arith) (grind arith) in
    grind (arith, nat_tests)
