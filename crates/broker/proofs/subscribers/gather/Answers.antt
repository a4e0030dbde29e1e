use Rattle.std.proofs.Common.{◌≡◌, suc, ◌+◌, ◌*◌, ◌≤◌, [], ◌∷◌, ◌++◌, map, length, get_or, drop, ap, ◌∙◌, mul-le-mul_left, mul-suc, arith}
use Rattle.std.proofs.lemmas.List.{length_push, length-drop, take_rest}
use Rattle.cover.specs.Maximal.{insert}
use Rattle.cover.specs.Table.{held, stored, inserted_all}
use Rattle.cover.specs.Rows.{listed}
use Rattle.cover.proofs.TableLaws.{length_held, length_insert, getD_stored}
use Rattle.cover.proofs.Keeping.{gone_through}
use Rattle.broker.specs.Subscribers.{subscriber, subscribers, filters_of}
use Rattle.broker.proofs.Slots.{slot_to_come, gathered_next, gathered_none}
use Rattle.broker.proofs.subscribers.gather.Goals as goal

pub loop-slot-init : goal.loop-slot-init
unfolding subscribers
loop-slot-init c =
    let e = ap listed c.into_iter-slot-iterator.ensures.into_iter_gives ∙ c.counted-slot-items.ensures.rows in
    ([], e, ap (λ ss. inserted_all (2 * c.args.m) (filters_of (map subscriber ss)) c.args.table.now) e, omega arith)

pub slice_bounds-insert-count : goal.slice_bounds-insert-count
slice_bounds-insert-count c =
    let i = c.loop-slot.invariant in
    let y = slot_to_come c.args.m c.args.part.now i.0 c.in-Some.slot.now (listed c.next.new.self) (listed c.loop-slot.slot-iterator) c.requires.whole.2 i.1 c.in-Some.ensures.steps in
    omega (arith, y.0)

pub slice_bounds-insert-start : goal.slice_bounds-insert-start
slice_bounds-insert-start c =
    let i = c.loop-slot.invariant in
    let y = slot_to_come c.args.m c.args.part.now i.0 c.in-Some.slot.now (listed c.next.new.self) (listed c.loop-slot.slot-iterator) c.requires.whole.2 i.1 c.in-Some.ensures.steps in
    omega (arith, y.0)

pub insert-requires : goal.insert-requires
insert-requires c =
    let i = c.loop-slot.invariant in
    let y = slot_to_come c.args.m c.args.part.now i.0 c.in-Some.slot.now (listed c.next.new.self) (listed c.loop-slot.slot-iterator) c.requires.whole.2 i.1 c.in-Some.ensures.steps in
    let l : length (drop 1 c.in-Some.slot.now) ≡ 2 * c.args.m = omega (arith, length-drop 1 c.in-Some.slot.now, y.0) in
    let k : suc (get_or c.loop-slot.table 0 0) ≤ get_or c.args.table.now 0 0 + get_or c.args.part.now 0 0 = omega (arith, i.3, y.1) in
    let m = mul-le-mul_left (2 * c.args.m) k in
    let r = c.requires.room in
    record { wide = rw (take_rest, l) (omega (arith, c.requires.whole.0)); room = rw (take_rest, l) (omega (arith, mul-suc (2 * c.args.m) (get_or c.loop-slot.table 0 0))) }

pub loop-slot-preserved : goal.loop-slot-preserved
loop-slot-preserved c =
    let i = c.loop-slot.invariant in
    let y = slot_to_come c.args.m c.args.part.now i.0 c.in-Some.slot.now (listed c.next.new.self) (listed c.loop-slot.slot-iterator) c.requires.whole.2 i.1 c.in-Some.ensures.steps in
    let l : length (drop 1 c.in-Some.slot.now) ≡ 2 * c.args.m = omega (arith, length-drop 1 c.in-Some.slot.now, y.0) in
    let e : c.insert.new.table ≡ stored (2 * c.args.m) (insert (drop 1 c.in-Some.slot.now) (held (2 * c.args.m) c.loop-slot.table)) c.loop-slot.table = rw (take_rest, l) at c.insert.ensures in
    let k = length_insert (drop 1 c.in-Some.slot.now) (held (2 * c.args.m) c.loop-slot.table) in
    let h = length_held (2 * c.args.m) c.loop-slot.table in
    let g = ap (λ t. get_or t 0 0) e ∙ getD_stored (2 * c.args.m) (insert (drop 1 c.in-Some.slot.now) (held (2 * c.args.m) c.loop-slot.table)) c.loop-slot.table in (
      i.0 ++ c.in-Some.slot.now ∷ [],
      gone_through i.0 (listed c.next.new.self) (held (1 + 2 * c.args.m) c.args.part.now) c.in-Some.slot.now (listed c.loop-slot.slot-iterator) i.1 c.in-Some.ensures.steps,
      ap (inserted_all (2 * c.args.m) (filters_of (map subscriber (listed c.next.new.self)))) e
          ∙ (gathered_next (2 * c.args.m) c.in-Some.slot.now (listed c.next.new.self) (listed c.loop-slot.slot-iterator) c.loop-slot.table c.in-Some.ensures.steps ∙ i.2),
      omega (arith, i.3, length_push i.0 c.in-Some.slot.now),
    )

pub returns : goal.returns
returns c = gathered_none (2 * c.args.m) (listed c.loop-slot.slot-iterator) c.loop-slot.table c.in-None.ensures.steps.0 ∙ c.loop-slot.invariant.2
