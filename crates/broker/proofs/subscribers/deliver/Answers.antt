use Rattle.std.proofs.Common.{get_or, ◌≡◌, true, false, ◌+◌, ◌*◌, [], ◌∷◌, ◌++◌, drop, sym, ap, ◌∙◌, arith}
use Rattle.std.proofs.lemmas.List.{length_push, take_rest}
use Rattle.filter.specs.Filter.{matches}
use Rattle.cover.specs.Table.{held}
use Rattle.cover.specs.Rows.{listed}
use Rattle.cover.proofs.Keeping.{gone_through, gone_all}
use Rattle.broker.specs.Subscribers.{subscribers, reached}
use Rattle.broker.proofs.Fronts.{front_none, front_push}
use Rattle.broker.proofs.Slots.{slot_to_come, reached_next}
use Rattle.broker.proofs.subscribers.deliver.Goals as goal

pub loop-slot-init : goal.loop-slot-init
unfolding reached
loop-slot-init c = ([], ap listed c.into_iter-slot-iterator.ensures.into_iter_gives ∙ c.counted-slot-items.ensures.rows, front_none _, omega arith)

pub slice_bounds-matches-count : goal.slice_bounds-matches-count
slice_bounds-matches-count c =
    let i = c.loop-slot.invariant in
    let y = slot_to_come c.args.m c.args.part.now i.0 c.in-Some.slot.now (listed c.next.new.self) (listed c.loop-slot.slot-iterator) c.requires.whole.1 i.1 c.in-Some.ensures.steps in
    omega (arith, y.0)

pub slice_bounds-matches-start : goal.slice_bounds-matches-start
slice_bounds-matches-start c =
    let i = c.loop-slot.invariant in
    let y = slot_to_come c.args.m c.args.part.now i.0 c.in-Some.slot.now (listed c.next.new.self) (listed c.loop-slot.slot-iterator) c.requires.whole.1 i.1 c.in-Some.ensures.steps in
    omega (arith, y.0)

pub bounds-slot-0 : goal.bounds-slot-0
bounds-slot-0 c =
    let i = c.loop-slot.invariant in
    let y = slot_to_come c.args.m c.args.part.now i.0 c.in-Some.slot.now (listed c.next.new.self) (listed c.loop-slot.slot-iterator) c.requires.whole.1 i.1 c.in-Some.ensures.steps in
    omega (arith, y.0)

pub bounds-out-to : goal.bounds-out-to
bounds-out-to c =
    let i = c.loop-slot.invariant in
    let y = slot_to_come c.args.m c.args.part.now i.0 c.in-Some.slot.now (listed c.next.new.self) (listed c.loop-slot.slot-iterator) c.requires.whole.1 i.1 c.in-Some.ensures.steps in
    omega (arith, i.3, y.1, c.requires.room)

pub loop-slot-preserved-then-matches : goal.loop-slot-preserved-then-matches
loop-slot-preserved-then-matches c =
    let i = c.loop-slot.invariant in
    let y = slot_to_come c.args.m c.args.part.now i.0 c.in-Some.slot.now (listed c.next.new.self) (listed c.loop-slot.slot-iterator) c.requires.whole.1 i.1 c.in-Some.ensures.steps in
    let t : matches (drop 1 c.in-Some.slot.now) c.args.notice.now ≡ true = rw take_rest at (sym c.if-matches.ensures) in
    let r = reached_next c.args.notice.now i.0 c.in-Some.slot.now in (
      i.0 ++ c.in-Some.slot.now ∷ [],
      gone_through i.0 (listed c.next.new.self) (held (1 + 2 * c.args.m) c.args.part.now) c.in-Some.slot.now (listed c.loop-slot.slot-iterator) i.1 c.in-Some.ensures.steps,
      rw (rw t at r) (front_push _ _ _ _ (get_or c.in-Some.slot.now 0 0) i.2 (omega (arith, i.3, y.1, c.requires.room))),
      omega (arith, i.3, length_push i.0 c.in-Some.slot.now),
    )

pub loop-slot-preserved : goal.loop-slot-preserved
loop-slot-preserved c =
    let i = c.loop-slot.invariant in
    let t : matches (drop 1 c.in-Some.slot.now) c.args.notice.now ≡ false = rw take_rest at (sym c.if-matches.ensures) in
    let r = reached_next c.args.notice.now i.0 c.in-Some.slot.now in (
      i.0 ++ c.in-Some.slot.now ∷ [],
      gone_through i.0 (listed c.next.new.self) (held (1 + 2 * c.args.m) c.args.part.now) c.in-Some.slot.now (listed c.loop-slot.slot-iterator) i.1 c.in-Some.ensures.steps,
      rw (rw t at r) i.2,
      omega (arith, i.3, length_push i.0 c.in-Some.slot.now),
    )

pub returns : goal.returns
unfolding subscribers
returns c =
    let i = c.loop-slot.invariant in
    let a = gone_all i.0 (held (1 + 2 * c.args.m) c.args.part.now) (listed c.loop-slot.slot-iterator) i.1 c.in-None.ensures.steps.0 in
    record { counted = rw a at i.2.counted; words = rw a at i.2.words }
