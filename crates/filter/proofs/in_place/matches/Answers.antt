use Rattle.std.proofs.Common.{arith}
use Rattle.std.proofs.lemmas.Bool.Decides.{nat_tests}
use Rattle.filter.proofs.Passes.{matches_shape, matches_pair, matches_end}
use Rattle.filter.proofs.in_place.matches.Goals.{then-number-low-via-then-number-low, then-number-low-via-else-number-low+then-number-high}
use Rattle.filter.proofs.in_place.matches.Goals as goal

pub returns-then-filter-ne0 : goal.returns-then-filter-ne0
returns-then-filter-ne0 c =
    let p = matches_shape c.args.filter.now c.args.notice.now in
    grind arith

pub returns-then-number-low : goal.returns-then-number-low
returns-then-number-low c =
    let p = matches_pair c.loop-ranges.ranges.now c.loop-ranges.numbers.now (grind (arith, nat_tests)) (grind (arith, nat_tests)) in
    elim c.then-number-low.branch [ then-number-low-via-then-number-low w ↦ grind (arith, nat_tests) | then-number-low-via-else-number-low+then-number-high w ↦ grind (arith, nat_tests) ]

pub loop-ranges-preserved : goal.loop-ranges-preserved
loop-ranges-preserved c =
    let p = matches_pair c.loop-ranges.ranges.now c.loop-ranges.numbers.now (grind (arith, nat_tests)) (grind (arith, nat_tests)) in
    grind (arith, nat_tests)

pub returns-in_default : goal.returns-in_default
returns-in_default c =
    let p = matches_end c.loop-ranges.ranges.now c.loop-ranges.numbers.now (grind arith) in
    grind (arith, nat_tests)

pub returns-in_default-2 : goal.returns-in_default-2
returns-in_default-2 c =
    let p = matches_end c.loop-ranges.ranges.now c.loop-ranges.numbers.now (grind arith) in
    grind (arith, nat_tests)
