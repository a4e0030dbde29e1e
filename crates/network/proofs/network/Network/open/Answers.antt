use Rattle.std.proofs.Common.{◌≡◌, ◌≤◌, length, replicate, sym, refl, ap, ◌∙◌, arith}
use Rattle.layout.specs.Plan.{words_of}
use Rattle.layout.specs.Parts.{plan_of}
use Rattle.network.proofs.Opened.{opened_sound, opened_empty}
use Rattle.network.proofs.network.Network.open.Goals as goal

pub invariant_of-result : goal.invariant_of-result
invariant_of-result c =
    let e : c.fill.new.self ≡ replicate (length c.fill.new.self) 0 = c.fill.ensures.after (λ y q. q) ∙ ap (λ n. replicate n 0) (sym c.fill.ensures.len) in
    let w : words_of (plan_of c.args.opening) ≤ length c.fill.new.self = omega (arith, c.fill.ensures.len) in
    record { sound = ∣ opened_sound c.args.opening c.fill.new.self w e ∣₁ }

pub returns : goal.returns
returns c =
    let e : c.fill.new.self ≡ replicate (length c.fill.new.self) 0 = c.fill.ensures.after (λ y q. q) ∙ ap (λ n. replicate n 0) (sym c.fill.ensures.len) in
    let w : words_of (plan_of c.args.opening) ≤ length c.fill.new.self = omega (arith, c.fill.ensures.len) in
    record { nothing = opened_empty c.args.opening c.fill.new.self w e; opening = refl }
