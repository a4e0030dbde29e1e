use Rattle.std.proofs.Common.{arith}
use Rattle.std.proofs.lemmas.List.{take_rest}
use Rattle.broker.proofs.Slots.{found, filter_there}
use Rattle.broker.proofs.subscribers.filter_of.Goals as goal

pub returns-in_err-slot : goal.returns-in_err-slot
returns-in_err-slot c =
    let f = found c.args.number c.args.m c.in_ok-at.at c.args.part.now c.in_ok-at.ensures in
    absurd (omega (arith, f.2, c.in_err-slot.ensures, c.counted.ensures.count))

pub slice_bounds-new-count : goal.slice_bounds-new-count
slice_bounds-new-count c =
    let f = found c.args.number c.args.m c.in_ok-at.at c.args.part.now c.in_ok-at.ensures in
    let t = filter_there c.args.number c.args.m c.in_ok-at.at c.args.part.now c.in_ok-slot.slot.now c.requires.1 f.0 f.1 f.2 (rw c.counted.ensures.rows at c.in_ok-slot.ensures.1) in
    omega (arith, t.0)

pub slice_bounds-new-start : goal.slice_bounds-new-start
slice_bounds-new-start c =
    let f = found c.args.number c.args.m c.in_ok-at.at c.args.part.now c.in_ok-at.ensures in
    let t = filter_there c.args.number c.args.m c.in_ok-at.at c.args.part.now c.in_ok-slot.slot.now c.requires.1 f.0 f.1 f.2 (rw c.counted.ensures.rows at c.in_ok-slot.ensures.1) in
    omega (arith, t.0)

pub returns : goal.returns
returns c =
    let f = found c.args.number c.args.m c.in_ok-at.at c.args.part.now c.in_ok-at.ensures in
    let t = filter_there c.args.number c.args.m c.in_ok-at.at c.args.part.now c.in_ok-slot.slot.now c.requires.1 f.0 f.1 f.2 (rw c.counted.ensures.rows at c.in_ok-slot.ensures.1) in
    let k = f.0 in
    let b = rw take_rest at c.new.ensures in
    rw (k, t.1, ← b)
