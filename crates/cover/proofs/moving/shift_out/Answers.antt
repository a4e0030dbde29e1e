use Rattle.std.proofs.Common.{arith}
use Rattle.cover.proofs.Shifts.{turned_out}
use Rattle.cover.proofs.moving.shift_out.Goals as goal

pub returns : goal.returns
returns c =
    turned_out c.args.words.now c.fill.new.self c.args.at c.args.end c.args.n (omega arith) (omega arith) c.rotate_left.new.self _ (omega arith)
    c.rotate_left.ensures.after (omega arith) (c.fill.ensures.after (λ y e. e))
