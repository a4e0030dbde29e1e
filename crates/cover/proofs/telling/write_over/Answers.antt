use Rattle.std.proofs.Common.{◌≡◌, ◌+◌, ◌-◌, ◌*◌, get_or, refl, arith}
use Rattle.cover.proofs.Mail.{table_front}
use Rattle.cover.proofs.telling.write_over.Goals as goal

pub returns : goal.returns
returns c =
    let e : 1 + c.args.width * get_or c.args.new.now 0 0 - 0 ≡ 1 + c.args.width * get_or c.args.new.now 0 0 = omega arith in
    let f = c.copy_from_slice.ensures.after in
    let t = table_front c.args.width c.args.new.now (omega (arith, c.requires.news)) in
    rw (f, e, t) refl
