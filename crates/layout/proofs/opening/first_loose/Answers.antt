use Rattle.std.proofs.Common.{◌≡◌, true, false, arith, rules}
use Rattle.std.proofs.lemmas.Bool.Decides.{nat_tests}
use Rattle.std.proofs.lemmas.Iterator.{first_from_Range}
use Rattle.layout.specs.Opening.{hangs}
use Rattle.layout.proofs.Openings.{loose_found, hangs_past, hangs_within}
use Rattle.layout.proofs.opening.first_loose.Goals as goal

pub returns : goal.returns
returns c =
    let given = c.args.given.now in
    loose_found given c.args.brokers c.find.result
    (first_from_Range _ _ _ _ (λ b. hangs given b ≡ false) (λ b. hangs given b ≡ true) c.find.ensures.ran
    (λ b q h. let p = hangs_past given b in let w = hangs_within given b in grind (arith, nat_tests))
    (λ b q h. (search rules, let p = hangs_past given b in let w = hangs_within given b in grind (arith, nat_tests))))
