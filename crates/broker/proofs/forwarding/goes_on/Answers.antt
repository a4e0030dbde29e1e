use Rattle.std.proofs.Common.{◌≡◌, true, refl, sym, ap, ◌∙◌, arith}
use Rattle.cover.specs.Maximal.{any_matches}
use Rattle.cover.specs.Rows.{listed}
use Rattle.broker.specs.Forwarding.{wanting}
use Rattle.broker.proofs.Fronts.{front_none}
use Rattle.broker.proofs.Forwards.{matches_next, matches_none, chosen_pick, chosen_skip, chosen_back}
use Rattle.broker.proofs.forwarding.goes_on.Goals as goal

pub neighbours-init : goal.neighbours-init
unfolding wanting
neighbours-init c = (front_none _, omega arith)

pub neighbours-preserved-then-neighbour-from : goal.neighbours-preserved-then-neighbour-from
neighbours-preserved-then-neighbour-from c =
    let (h, k) = c.neighbours.invariant in
    (rw (chosen_back _ _ _ _ _ _ c.neighbours-test.true c.if-neighbour-from.true) h, omega arith)

pub loop-filter-init : goal.loop-filter-init
loop-filter-init c = (refl, refl, ap (λ fs. any_matches fs c.args.notice.now) (ap listed c.into_iter-filter-iterator.ensures.into_iter_gives ∙ c.counted-filter-items.ensures.rows))

pub neighbours-preserved-then-matches : goal.neighbours-preserved-then-matches
neighbours-preserved-then-matches c =
    let (h, k, a) = c.loop-filter.invariant in
    let n = matches_next c.in-Some.filter.now (listed c.next.new.self) (listed c.loop-filter.filter-iterator) c.args.notice.now c.in-Some.ensures.steps in
    let f = c.if-matches.ensures in
    let t : true ≡ any_matches (listed c.loop-filter.filter-iterator) c.args.notice.now = grind arith in (
      rw (h, k) (chosen_pick _ _ _ _ _ _ c.neighbours-test.true c.if-neighbour-from.false (t ∙ a) _ _ _ c.neighbours.invariant.0 (omega (arith, c.neighbours.invariant.1))),
      omega (arith, k, c.neighbours.invariant.1),
    )

pub loop-filter-preserved : goal.loop-filter-preserved
loop-filter-preserved c =
    let (h, k, a) = c.loop-filter.invariant in
    let n = matches_next c.in-Some.filter.now (listed c.next.new.self) (listed c.loop-filter.filter-iterator) c.args.notice.now c.in-Some.ensures.steps in
    let f = c.if-matches.ensures in
    let t : any_matches (listed c.next.new.self) c.args.notice.now ≡ any_matches (listed c.loop-filter.filter-iterator) c.args.notice.now = grind arith in
    (h, k, t ∙ a)

pub neighbours-preserved : goal.neighbours-preserved
neighbours-preserved c =
    let (h, k, a) = c.loop-filter.invariant in
    let n = matches_none (listed c.loop-filter.filter-iterator) c.args.notice.now c.in-None.ensures.steps.0 in (
      rw (h, k, chosen_skip _ _ _ _ _ _ c.neighbours-test.true (sym n ∙ a)) c.neighbours.invariant.0,
      omega (arith, k, c.neighbours.invariant.1),
    )
