use Rattle.std.proofs.Common.{◌≡◌, suc, ◌+◌, ◌≤◌, [], ◌∷◌, ◌++◌, get_or, ap, ◌∙◌, mul-le-mul_left, mul-suc, arith}
use Rattle.std.proofs.lemmas.List.{length_push}
use Rattle.cover.specs.Maximal.{insert}
use Rattle.cover.specs.Table.{held, stored, inserted_all}
use Rattle.cover.specs.Rows.{listed}
use Rattle.cover.proofs.RowLaws.{length_rows}
use Rattle.cover.proofs.TableLaws.{wide_rows, length_held, length_insert, getD_stored, inserted_one, inserted_none}
use Rattle.cover.proofs.Keeping.{gone_through, yet_to_come}
use Rattle.cover.proofs.table.insert_all.Goals as goal

pub loop-filter-init : goal.loop-filter-init
loop-filter-init c =
    let e = ap listed c.into_iter-filter-iterator.ensures.into_iter_gives in
    ([], e, ap (λ fs. inserted_all c.args.list.width fs c.args.table.now) e, omega arith)

pub insert-requires : goal.insert-requires
insert-requires c =
    let i = c.loop-filter.invariant in
    let y = yet_to_come c.args.list.width i.0 (listed c.next.new.self) (listed c.args.list) c.in-Some.filter.now (listed c.loop-filter.filter-iterator) (wide_rows c.args.list.width c.args.list.left c.args.list.words.now c.args.list.there) i.1 c.in-Some.ensures.steps in
    let l = length_rows c.args.list.width c.args.list.left c.args.list.words.now in
    let k : suc (get_or c.loop-filter.table 0 0) ≤ get_or c.args.table.now 0 0 + c.args.list.left = omega (arith, i.3, y.1) in
    let m = mul-le-mul_left c.args.list.width k in
    let r = c.requires.room in
    record { wide = rw y.0 c.requires.wide; room = rw y.0 (omega (arith, mul-suc c.args.list.width (get_or c.loop-filter.table 0 0))) }

pub loop-filter-preserved : goal.loop-filter-preserved
loop-filter-preserved c =
    let i = c.loop-filter.invariant in
    let y = yet_to_come c.args.list.width i.0 (listed c.next.new.self) (listed c.args.list) c.in-Some.filter.now (listed c.loop-filter.filter-iterator) (wide_rows c.args.list.width c.args.list.left c.args.list.words.now c.args.list.there) i.1 c.in-Some.ensures.steps in
    let e : c.insert.new.table ≡ stored c.args.list.width (insert c.in-Some.filter.now (held c.args.list.width c.loop-filter.table)) c.loop-filter.table = rw y.0 at c.insert.ensures in
    let k = length_insert c.in-Some.filter.now (held c.args.list.width c.loop-filter.table) in
    let h = length_held c.args.list.width c.loop-filter.table in
    let p = length_push i.0 c.in-Some.filter.now in
    let g = ap (λ t. get_or t 0 0) e ∙ getD_stored c.args.list.width (insert c.in-Some.filter.now (held c.args.list.width c.loop-filter.table)) c.loop-filter.table in (
      i.0 ++ c.in-Some.filter.now ∷ [],
      gone_through i.0 (listed c.next.new.self) (listed c.args.list) c.in-Some.filter.now (listed c.loop-filter.filter-iterator) i.1 c.in-Some.ensures.steps,
      ap (inserted_all c.args.list.width (listed c.next.new.self)) e ∙ (inserted_one c.args.list.width c.in-Some.filter.now (listed c.next.new.self) (listed c.loop-filter.filter-iterator) c.loop-filter.table c.in-Some.ensures.steps ∙ i.2),
      omega (arith, i.3),
    )

pub returns : goal.returns
returns c = inserted_none c.args.list.width (listed c.loop-filter.filter-iterator) c.loop-filter.table c.in-None.ensures.steps.0 ∙ c.loop-filter.invariant.2
