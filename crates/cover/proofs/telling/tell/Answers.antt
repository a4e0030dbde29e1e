use Rattle.std.proofs.Common.{rules, ◌≡◌, Err, get_or, refl, sym, ◌∙◌, arith}
use Rattle.std.proofs.lemmas.List.{take_rest, length-drop}
use Rattle.cover.specs.Entry.{TellSays}
use Rattle.cover.proofs.Mail.{accepted, announcing, few_words, tell_done}
use Rattle.cover.proofs.telling.tell.Goals as goal

pub returns-in_err-check : goal.returns-in_err-check
unfolding TellSays
returns-in_err-check c =
    let e : c.from_residual.result ≡ Err c.in_err-check.field-0.0 = search rules in
    rw c.in_err-check.ensures (e, refl, refl)

pub bounds-known-0 : goal.bounds-known-0
bounds-known-0 c =
    let a = accepted c.args.known.now c.args.said.now c.args.mail.now c.in_ok-check.ensures in
    omega (arith, a.known_long)

pub overflow_mul-width : goal.overflow_mul-width
overflow_mul-width c =
    let a = accepted c.args.known.now c.args.said.now c.args.mail.now c.in_ok-check.ensures in
    omega (arith, a.pairs_most)

pub slice_bounds-new-count : goal.slice_bounds-new-count
slice_bounds-new-count c =
    let a = accepted c.args.known.now c.args.said.now c.args.mail.now c.in_ok-check.ensures in
    a.known_long

pub slice_bounds-new-start : goal.slice_bounds-new-start
slice_bounds-new-start c =
    let a = accepted c.args.known.now c.args.said.now c.args.mail.now c.in_ok-check.ensures in
    omega (arith, a.known_long)

pub bounds-known-1 : goal.bounds-known-1
bounds-known-1 c =
    let a = accepted c.args.known.now c.args.said.now c.args.mail.now c.in_ok-check.ensures in
    omega (arith, a.known_long)

pub new-list-requires : goal.new-list-requires
new-list-requires c =
    let a = accepted c.args.known.now c.args.said.now c.args.mail.now c.in_ok-check.ensures in
    let b = a.known_there in
    simp (take_rest, length-drop) (omega arith)

pub maximal-requires : goal.maximal-requires
maximal-requires c =
    let a = accepted c.args.known.now c.args.said.now c.args.mail.now c.in_ok-check.ensures in
    let k = few_words (get_or c.args.known.now 0 0) (get_or c.args.known.now 1 0) a.pairs_most a.known_most in
    record { wide = rw c.new-list.ensures.width (omega (arith, a.pairs_some)); room = rw (c.new-list.ensures.width, c.new-list.ensures.count) (omega arith) }

pub counted-told-requires : goal.counted-told-requires
counted-told-requires c =
    let a = accepted c.args.known.now c.args.said.now c.args.mail.now c.in_ok-check.ensures in
    a.said_there

pub counted-requires : goal.counted-requires
counted-requires c =
    let a = accepted c.args.known.now c.args.said.now c.args.mail.now c.in_ok-check.ensures in
    let t = announcing c.args.known.now c.args.said.now c.args.mail.now c.maximal.new.table a (omega arith) (rw (c.new-list.ensures.rows, c.new-list.ensures.width) at c.maximal.ensures) in
    omega (arith, t.there, t.long)

pub write_changes-changes-requires : goal.write_changes-changes-requires
write_changes-changes-requires c =
    let a = accepted c.args.known.now c.args.said.now c.args.mail.now c.in_ok-check.ensures in
    let t = announcing c.args.known.now c.args.said.now c.args.mail.now c.maximal.new.table a (omega arith) (rw (c.new-list.ensures.rows, c.new-list.ensures.width) at c.maximal.ensures) in
    let k = few_words (get_or c.args.known.now 0 0) (get_or c.args.said.now 0 0) a.pairs_most a.said_most in
    let n = c.counted.ensures in
    let o = c.counted-told.ensures in
    record {
      wide = o.width ∙ sym n.width;
      room = rw (n.width, n.count, o.count) (omega (arith, t.there, a.mail_long));
      few = rw (n.count, o.count) (omega (arith, t.few, a.said_most));
    }

pub write_over-requires : goal.write_over-requires
write_over-requires c =
    let a = accepted c.args.known.now c.args.said.now c.args.mail.now c.in_ok-check.ensures in
    let t = announcing c.args.known.now c.args.said.now c.args.mail.now c.maximal.new.table a (omega arith) (rw (c.new-list.ensures.rows, c.new-list.ensures.width) at c.maximal.ensures) in
    record { news = omega (arith, t.there, t.long); room = omega (arith, t.there, a.said_long) }

pub returns : goal.returns
returns c =
    let a = accepted c.args.known.now c.args.said.now c.args.mail.now c.in_ok-check.ensures in
    let t = announcing c.args.known.now c.args.said.now c.args.mail.now c.maximal.new.table a (omega arith) (rw (c.new-list.ensures.rows, c.new-list.ensures.width) at c.maximal.ensures) in
    let n = c.counted.ensures in
    let o = c.counted-told.ensures in
    let w = c.write_changes-changes.ensures in
    tell_done c.args.known.now c.args.said.now c.args.mail.now c.maximal.new.table c.write_over.new.said c.write_changes-changes.new.mail c.write_changes-changes.result
    c.in_ok-check.ensures t (rw (n.rows, o.rows) at w.counted) (rw (n.rows, o.rows, n.width) at w.words) c.write_over.ensures
