use Rattle.std.proofs.Common.{arith}
use Rattle.cover.proofs.Shifts.{shifted_in}
use Rattle.cover.proofs.moving.shift_in.Goals as goal

pub returns : goal.returns
returns c =
    let s = shifted_in c.args.words.now c.args.f.now c.args.at c.args.end (omega arith) (omega arith) c.rotate_right.new.self c.rotate_right.ensures.after in
    rw c.copy_from_slice.ensures.after s
