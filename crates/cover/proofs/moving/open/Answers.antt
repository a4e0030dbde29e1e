use Rattle.std.proofs.Common.{length, sym, refl, ◌∙◌, mul-le-mul_left, arith}
use Rattle.cover.proofs.RowLaws.{written_inserted}
use Rattle.cover.proofs.moving.open.Goals as goal

pub overflow_mul-f : goal.overflow_mul-f
overflow_mul-f c = omega (arith, mul-le-mul_left (length c.args.f.now) c.requires.0)

pub shift_in-requires : goal.shift_in-requires
shift_in-requires c = (mul-le-mul_left (length c.args.f.now) c.requires.0, c.requires.1)

pub returns : goal.returns
returns c =
    c.shift_in.ensures
    ∙ sym (written_inserted (length c.args.f.now) c.args.count c.args.at c.args.words.now c.args.f.now refl c.requires.0)
