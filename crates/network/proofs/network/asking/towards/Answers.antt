use Rattle.std.proofs.Common.{◌<◌, cond, sym, refl, ap, ◌∙◌, arith}
use Rattle.std.proofs.lemmas.Bool.{eq-eqb, ne_eqb}
use Rattle.model.specs.Tree.{hop, up}
use Rattle.model.proofs.Hops.{hop_below, hop_above}
use Rattle.layout.specs.Parts.{tree}
use Rattle.steps.proofs.Hanging.{hung_up}
use Rattle.layout.proofs.Written.{tree_length, tree_hung}
use Rattle.network.proofs.network.asking.towards.Goals as goal

pub loop-x-init : goal.loop-x-init
loop-x-init c = (c.requires.0, c.requires.2, refl)

pub bounds-opening-x : goal.bounds-opening-x
bounds-opening-x c = omega (arith, c.loop-x.invariant.0, c.args.opening.now.valid.1.1)

pub returns-then-up-b : goal.returns-then-up-b
returns-then-up-b c =
    let o = c.args.opening.now in
    let l = tree_length o in
    let i = c.loop-x.invariant.0 in
    let a = hop_above (tree o) c.loop-x.x c.args.b (tree_hung o) c.loop-x-test.true (omega arith) in
    let u = hung_up o c.loop-x.x (omega (arith, c.loop-x-test.true)) i in
    let e = eq-eqb (up (tree o) c.loop-x.x) c.args.b (u ∙ (sym c.from-up.ensures ∙ c.if-up-b.true)) in
    sym (c.loop-x.invariant.2 ∙ (a ∙ ap (λ v. cond v c.loop-x.x (hop (tree o) (up (tree o) c.loop-x.x) c.args.b)) e))

pub loop-x-smaller : goal.loop-x-smaller
loop-x-smaller c =
    let o = c.args.opening.now in
    let h = o.valid.4 c.loop-x.x (omega (arith, c.loop-x-test.true)) c.loop-x.invariant.0 in
    omega (arith, c.from-up.ensures)

pub loop-x-preserved : goal.loop-x-preserved
loop-x-preserved c =
    let o = c.args.opening.now in
    let l = tree_length o in
    let i = c.loop-x.invariant.0 in
    let h = o.valid.4 c.loop-x.x (omega (arith, c.loop-x-test.true)) i in
    let a = hop_above (tree o) c.loop-x.x c.args.b (tree_hung o) c.loop-x-test.true (omega arith) in
    let u = hung_up o c.loop-x.x (omega (arith, c.loop-x-test.true)) i ∙ sym c.from-up.ensures in
    let e = ne_eqb (up (tree o) c.loop-x.x) c.args.b (λ q. c.if-up-b.false (sym u ∙ q)) in (
      omega (arith, c.from-up.ensures),
      (λ q. c.if-up-b.false (sym q)),
      c.loop-x.invariant.2 ∙ (a ∙ (ap (λ v. cond v c.loop-x.x (hop (tree o) (up (tree o) c.loop-x.x) c.args.b)) e ∙ ap (λ y. hop (tree o) y c.args.b) u)),
    )

pub returns : goal.returns
returns c =
    let o = c.args.opening.now in
    let l = tree_length o in
    let ne = c.loop-x.invariant.1 in
    let b = c.requires.1 in
    let k : c.loop-x.x < c.args.b = omega (arith, c.loop-x-test.false) in
    let a = hop_below (tree o) c.loop-x.x c.args.b (tree_hung o) k (omega arith) in
    let u = hung_up o c.args.b (omega arith) b in
    c.from.ensures ∙ (sym u ∙ (sym a ∙ sym c.loop-x.invariant.2))
