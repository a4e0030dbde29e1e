use Rattle.std.proofs.Common.{◌*◌, ◌++◌, length, drop, replicate, sym, ◌∙◌, arith}
use Rattle.cover.proofs.RowLaws.{row_fits, written_removed}
use Rattle.cover.proofs.moving.close.Goals as goal

pub overflow_mul-width : goal.overflow_mul-width
overflow_mul-width c = omega (arith, row_fits c.args.width c.args.count c.args.at (length c.args.words.now) c.requires.0 c.requires.1)

pub shift_out-requires : goal.shift_out-requires
shift_out-requires c = (row_fits c.args.width c.args.count c.args.at (c.args.width * c.args.count) c.requires.0 (omega arith), c.requires.1)

pub returns : goal.returns
returns c =
    c.shift_out.ensures
    ∙ sym (written_removed c.args.width c.args.count c.args.at c.args.words.now (replicate c.args.width 0 ++ drop (c.args.width * c.args.count) c.args.words.now) c.requires.0)
