use Rattle.std.proofs.Common.{◌≤◌, sym, ◌∙◌, subst, arith}
use Rattle.std.proofs.lemmas.Bool.Decides.{nat_tests}
use Rattle.layout.specs.Opening.{HangsTogether}
use Rattle.layout.proofs.Openings.{all_given, all_hung}
use Rattle.layout.proofs.opening.Opening.new.Goals as goal

pub hung_of-hung-requires : goal.hung_of-hung-requires
hung_of-hung-requires c =
    let p = all_given c.args.brokers c.args.given.now (sym c.first_loose.ensures ∙ c.in_default.is) in
    grind (arith, nat_tests)

pub invariant_of-result : goal.invariant_of-result
invariant_of-result c =
    let b : c.args.brokers ≤ 16 = grind (arith, nat_tests) in
    let p = all_hung c.args.brokers c.args.given.now b (sym c.first_loose.ensures ∙ c.in_default.is) in
    let h : HangsTogether c.args.brokers c.hung_of-hung.result = subst (λ hung. HangsTogether c.args.brokers hung) (sym c.hung_of-hung.ensures) p in
    record { valid = (grind (arith, nat_tests), grind (arith, nat_tests), grind (arith, nat_tests), grind (arith, nat_tests), h) }
