use Rattle.std.proofs.Common.{◌+◌, ◌*◌, ◌++◌, length, get_or, drop, replicate, sym, ◌∙◌, arith, rules}
use Rattle.std.proofs.lemmas.List.{take_rest, length-drop}
use Rattle.cover.proofs.RowLaws.{row_fits, written_removed}
use Rattle.broker.specs.Subscribers.{subscribers, ahead, known}
use Rattle.broker.proofs.Slots.{found, not_found}
use Rattle.broker.proofs.Part.{left, left_none, left_holds}
use Rattle.broker.proofs.subscribers.leave.Goals as goal

pub returns-in_default : goal.returns-in_default
returns-in_default c =
    let k = not_found (known c.args.number (subscribers c.args.m c.args.part.now)) (ahead c.args.number (subscribers c.args.m c.args.part.now)) c.in_default.ensures in
    let e = left_none c.args.m c.args.number c.args.part.now c.requires.1 k in
    record {
      answer = grind arith;
      words = e;
      fits = search rules;
      holds = λ room rs h. left_holds room c.args.m c.args.number rs c.args.part.now h c.args.part.now e;
    }

pub overflow_mul-width-2 : goal.overflow_mul-width-2
overflow_mul-width-2 c =
    let f = found c.args.number c.args.m c.in-Some.at c.args.part.now c.in-Some.ensures in
    let r = row_fits (1 + 2 * c.args.m) (get_or c.args.part.now 0 0) c.in-Some.at (length c.args.part.now) f.2 (omega (arith, c.requires.1)) in
    search rules

pub shift_out-requires : goal.shift_out-requires
shift_out-requires c =
    let f = found c.args.number c.args.m c.in-Some.at c.args.part.now c.in-Some.ensures in (
      row_fits (1 + 2 * c.args.m) (get_or c.args.part.now 0 0) c.in-Some.at ((1 + 2 * c.args.m) * get_or c.args.part.now 0 0) f.2 (omega arith),
      simp (take_rest, length-drop) (omega (arith, c.requires.1)),
    )

pub overflow_sub-part : goal.overflow_sub-part
overflow_sub-part c =
    let f = found c.args.number c.args.m c.in-Some.at c.args.part.now c.in-Some.ensures in
    omega (arith, f.2)

pub returns : goal.returns
returns c =
    let f = found c.args.number c.args.m c.in-Some.at c.args.part.now c.in-Some.ensures in
    let s = written_removed (1 + 2 * c.args.m) (get_or c.args.part.now 0 0) c.in-Some.at (drop 1 c.args.part.now) (replicate (1 + 2 * c.args.m) 0 ++ drop ((1 + 2 * c.args.m) * get_or c.args.part.now 0 0) (drop 1 c.args.part.now)) f.2 in
    let e = left c.args.m c.args.number c.in-Some.at c.args.part.now c.shift_out.new.words c.requires.1 f.1 f.2 (rw take_rest at c.shift_out.ensures ∙ sym s) in
    let k = f.0 in
    record {
      answer = grind arith;
      words = e;
      fits = search rules;
      holds = λ room rs h. left_holds room c.args.m c.args.number rs c.args.part.now h _ e;
    }
