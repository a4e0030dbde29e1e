use Rattle.std.proofs.Common.{◌≡◌, ◌+◌, ◌-◌, ◌*◌, [], ◌++◌, ◌∷◌, drop, sym, ap, ◌∙◌, arith}
use Rattle.std.proofs.lemmas.List.{length-take-le, length-drop}
use Rattle.cover.specs.Rows.{listed}
use Rattle.cover.proofs.RowLaws.{length_rows}
use Rattle.cover.proofs.TableLaws.{length_minus, next_fits}
use Rattle.cover.proofs.Keeping.{picked_none, picked_skip, picked_one, gone_through, gone_all}
use Rattle.cover.proofs.rows.Rows.minus.Goals as goal

pub loop-row-init : goal.loop-row-init
loop-row-init c = ([], ap listed c.into_iter-row-iterator.ensures.into_iter_gives, picked_none (listed c.args.others) c.args.self.width c.args.out.now)

pub slice_bounds-copy_from_slice-end : goal.slice_bounds-copy_from_slice-end
slice_bounds-copy_from_slice-end c =
    let i = c.loop-row.invariant in
    let n = next_fits c.args.self (listed c.args.others) i.0 (listed c.next.new.self) c.in-Some.row.now (listed c.loop-row.row-iterator) c.args.out.now c.loop-row.out c.loop-row.many i.2 i.1 c.in-Some.ensures.steps in
    omega (arith, n.2, c.requires)

pub copy_from_slice-requires : goal.copy_from_slice-requires
copy_from_slice-requires c =
    let i = c.loop-row.invariant in
    let n = next_fits c.args.self (listed c.args.others) i.0 (listed c.next.new.self) c.in-Some.row.now (listed c.loop-row.row-iterator) c.args.out.now c.loop-row.out c.loop-row.many i.2 i.1 c.in-Some.ensures.steps in
    let e : c.args.self.width * c.loop-row.many + c.args.self.width - c.args.self.width * c.loop-row.many ≡ c.args.self.width = omega arith in
    let l = length-drop (c.args.self.width * c.loop-row.many) c.loop-row.out in
    rw e (length-take-le c.args.self.width (drop (c.args.self.width * c.loop-row.many) c.loop-row.out) (omega (arith, n.2, c.requires)) ∙ sym n.0)

pub overflow_add-many : goal.overflow_add-many
overflow_add-many c =
    let i = c.loop-row.invariant in
    let n = next_fits c.args.self (listed c.args.others) i.0 (listed c.next.new.self) c.in-Some.row.now (listed c.loop-row.row-iterator) c.args.out.now c.loop-row.out c.loop-row.many i.2 i.1 c.in-Some.ensures.steps in
    omega (arith, n.1)

pub loop-row-preserved-then-not-has : goal.loop-row-preserved-then-not-has
loop-row-preserved-then-not-has c =
    let i = c.loop-row.invariant in
    let n = next_fits c.args.self (listed c.args.others) i.0 (listed c.next.new.self) c.in-Some.row.now (listed c.loop-row.row-iterator) c.args.out.now c.loop-row.out c.loop-row.many i.2 i.1 c.in-Some.ensures.steps in
    let e : c.args.self.width * c.loop-row.many + c.args.self.width - c.args.self.width * c.loop-row.many ≡ c.args.self.width = omega arith in
    let h = c.if-not-has.ensures in (
      i.0 ++ c.in-Some.row.now ∷ [],
      gone_through i.0 (listed c.next.new.self) (listed c.args.self) c.in-Some.row.now (listed c.loop-row.row-iterator) i.1 c.in-Some.ensures.steps,
      rw (e, c.copy_from_slice.ensures.after) (picked_one (listed c.args.others) c.args.self.width c.args.out.now i.0 c.loop-row.out c.loop-row.many c.in-Some.row.now i.2 (cc) n.0),
    )

pub loop-row-preserved : goal.loop-row-preserved
loop-row-preserved c =
    let i = c.loop-row.invariant in
    let h = c.if-not-has.ensures in (
      i.0 ++ c.in-Some.row.now ∷ [],
      gone_through i.0 (listed c.next.new.self) (listed c.args.self) c.in-Some.row.now (listed c.loop-row.row-iterator) i.1 c.in-Some.ensures.steps,
      picked_skip (listed c.args.others) c.args.self.width c.args.out.now i.0 c.loop-row.out c.loop-row.many c.in-Some.row.now i.2 (cc),
    )

pub returns : goal.returns
returns c =
    let i = c.loop-row.invariant in
    let d = gone_all i.0 (listed c.args.self) (listed c.loop-row.row-iterator) i.1 c.in-None.ensures.steps.0 in
    let m = length_minus (listed c.args.self) (listed c.args.others) in
    let l = length_rows c.args.self.width c.args.self.left c.args.self.words.now in
    let k = rw d at i.2.counted in
    record { counted = k; within = omega (arith, k); words = rw d at i.2.words }
