use Rattle.std.proofs.Common.{◌≡◌, ◌-◌, ◌*◌, ◌≤◌, length, drop, replicate, mul-le-mul_left, arith}
use Rattle.std.proofs.lemmas.List.{length-take-le, length-drop}
use Rattle.cover.proofs.RowLaws.{row_fits}
use Rattle.cover.proofs.Keeping.{keeping_none, keeping_skip, keeping_keep, keeping_done}
use Rattle.cover.proofs.moving.keep_outside.Goals as goal
use Rattle.cover.proofs.moving.keep_outside.Goals.{then-not-covers, else-not-covers}

pub loop-i-init : goal.loop-i-init
loop-i-init c = keeping_none c.args.f.now (length c.args.f.now) c.args.words.now

pub row-requires : goal.row-requires
row-requires c = row_fits (length c.args.f.now) c.args.count c.loop-i.i (length c.loop-i.words) (omega arith) (omega arith)

pub overflow_mul-width : goal.overflow_mul-width
overflow_mul-width c = omega (arith, row_fits (length c.args.f.now) c.args.count c.loop-i.i (length c.loop-i.words) (omega arith) (omega arith))

pub overflow_mul-width-then-not-covers : goal.overflow_mul-width-then-not-covers
overflow_mul-width-then-not-covers c =
    let m = mul-le-mul_left (length c.args.f.now) c.loop-i.invariant.behind in
    omega (arith, row_fits (length c.args.f.now) c.args.count c.loop-i.i (length c.loop-i.words) (omega arith) (omega arith))

pub copy_down-requires : goal.copy_down-requires
copy_down-requires c = (
  mul-le-mul_left (length c.args.f.now) c.loop-i.invariant.behind,
  row_fits (length c.args.f.now) c.args.count c.loop-i.i (length c.loop-i.words) (omega arith) (omega arith),
)

pub loop-i-preserved : goal.loop-i-preserved
loop-i-preserved c =
    elim c.if-not-covers.branch [
      | then-not-covers w ↦
          let b = row_fits (length c.args.f.now) c.args.count c.loop-i.i (length c.loop-i.words) (omega arith) (omega arith) in
          let e = c.row.ensures in
          let t = w.if-not-covers.ensures in
          rw (w.words-is, w.left-is, w.copy_down.ensures)
          (keeping_keep c.args.f.now (length c.args.f.now) c.args.words.now c.loop-i.words c.loop-i.left c.loop-i.i c.loop-i.invariant (cc) b)
      | else-not-covers w ↦
          let e = c.row.ensures in
          let t = w.if-not-covers.ensures in
          rw (w.words-is, w.left-is)
          (keeping_skip c.args.f.now (length c.args.f.now) c.args.words.now c.loop-i.words c.loop-i.left c.loop-i.i c.loop-i.invariant (cc))
    ]

pub overflow_mul-width-2 : goal.overflow_mul-width-2
overflow_mul-width-2 c =
    let h : c.loop-i.left ≤ c.args.count = omega (arith, c.loop-i.invariant.behind) in
    omega (arith, mul-le-mul_left (length c.args.f.now) h)

pub slice_bounds-fill-start : goal.slice_bounds-fill-start
slice_bounds-fill-start c =
    let h : c.loop-i.left ≤ c.args.count = omega (arith, c.loop-i.invariant.behind) in
    omega (arith, mul-le-mul_left (length c.args.f.now) h)

pub returns : goal.returns
returns c =
    let e : c.loop-i.i ≡ c.args.count = omega arith in
    let h = rw e at c.loop-i.invariant in
    let d =
    keeping_done c.args.f.now (length c.args.f.now) c.args.words.now c.loop-i.words
    (replicate (length c.args.f.now * c.args.count - length c.args.f.now * c.loop-i.left) 0) c.loop-i.left c.args.count h (omega arith) in
    let m = mul-le-mul_left (length c.args.f.now) h.behind in
    let t = length-drop (length c.args.f.now * c.loop-i.left) c.loop-i.words in
    let l = length-take-le (length c.args.f.now * c.args.count - length c.args.f.now * c.loop-i.left) (drop (length c.args.f.now * c.loop-i.left) c.loop-i.words) (omega arith) in
    record { counted = h.counted; within = h.behind; words = rw (c.fill.ensures.after (λ y e. e), l) d }
