use Rattle.std.proofs.Common.{◌≡◌, ◌+◌, ◌*◌, sym, ap, ◌∙◌, mul-le-mul_left, mul-add, arith}
use Rattle.cover.specs.Maximal.{minus}
use Rattle.cover.specs.Table.{written}
use Rattle.cover.specs.Rows.{listed}
use Rattle.cover.proofs.RowLaws.{length_written}
use Rattle.cover.proofs.TableLaws.{wide_rows, wide_minus}
use Rattle.cover.proofs.Mail.{mail_written}
use Rattle.cover.proofs.telling.write_changes.Goals as goal

pub overflow_mul-new : goal.overflow_mul-new
overflow_mul-new c =
    let m = mul-le-mul_left c.args.new.width c.write_missing-more.ensures.within in
    omega (arith, c.requires.room)

pub overflow_add-new : goal.overflow_add-new
overflow_add-new c =
    let m = mul-le-mul_left c.args.new.width c.write_missing-more.ensures.within in
    omega (arith, c.requires.room)

pub write_missing-less-requires : goal.write_missing-less-requires
write_missing-less-requires c =
    let m = mul-le-mul_left c.args.new.width c.write_missing-more.ensures.within in
    rw c.requires.wide (omega (arith, c.requires.room))

pub returns : goal.returns
returns c =
    let m = mul-le-mul_left c.args.new.width c.write_missing-more.ensures.within in
    let w = wide_minus c.args.new.width (listed c.args.new) (listed c.args.old) (wide_rows c.args.new.width c.args.new.left c.args.new.words.now c.args.new.there) in
    let l = length_written c.args.new.width (minus (listed c.args.new) (listed c.args.old)) w ∙ ap (λ n. c.args.new.width * n) (sym c.write_missing-more.ensures.counted) in
    let a = mul-add c.args.new.width c.write_missing-more.result c.write_missing-less.result in
    let e : 2 + c.args.new.width * (c.write_missing-more.result + c.write_missing-less.result) ≡ 2 + c.args.new.width * c.write_missing-more.result + c.args.new.width * c.write_missing-less.result = omega arith in
    let p = c.write_missing-more.ensures.counted in
    let q = c.write_missing-less.ensures.counted in
    let o : c.args.old.width * c.write_missing-less.result ≡ c.args.new.width * c.write_missing-less.result = ap (λ w. w * c.write_missing-less.result) c.requires.wide in
    let s =
    mail_written c.args.mail.now
    (written (minus (listed c.args.new) (listed c.args.old)))
    (written (minus (listed c.args.old) (listed c.args.new)))
    (c.args.new.width * c.write_missing-more.result) (c.args.new.width * c.write_missing-less.result) c.write_missing-more.result c.write_missing-less.result
    c.write_missing-more.new.mail c.write_missing-less.new.mail l (omega (arith, c.requires.room)) c.write_missing-more.ensures.words (rw o at c.write_missing-less.ensures.words) in
    record { counted = cc; words = rw (e, ← p, ← q) s }
