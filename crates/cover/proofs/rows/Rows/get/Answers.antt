use Rattle.std.proofs.Common.{◌≡◌, ◌+◌, ◌-◌, ◌*◌, sym, arith}
use Rattle.cover.proofs.RowLaws.{get_d_rows}
use Rattle.cover.proofs.rows.Rows.get.Goals as goal

pub returns : goal.returns
returns c =
    let e : c.args.self.width * c.args.i + c.args.self.width - c.args.self.width * c.args.i ≡ c.args.self.width = omega arith in
    (c.if-i-self.false, rw e (sym (get_d_rows c.args.self.width c.args.self.left c.args.i c.args.self.words.now c.if-i-self.false)))
