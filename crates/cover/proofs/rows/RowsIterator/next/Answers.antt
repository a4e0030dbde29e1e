use Rattle.std.proofs.Common.{◌-◌, arith}
use Rattle.cover.proofs.RowLaws.{rows_none, rows_head, length_rows}
use Rattle.cover.proofs.rows.RowsIterator.next.Goals as goal

pub returns-then-self-eq0-clause-steps : goal.returns-then-self-eq0-clause-steps
returns-then-self-eq0-clause-steps c =
    let e = rows_none c.args.self.now.width c.args.self.now.left c.args.self.now.words.now c.if-self-eq0.true in
    (e, e)

pub returns-clause-steps : goal.returns-clause-steps
returns-clause-steps c =
    let e = rows_head c.args.self.now.width c.args.self.now.left c.args.self.now.words.now (omega arith) in
    let f = c.split_at.ensures.front in
    let b = c.split_at.ensures.back in
    cc

pub returns-clause-goes : goal.returns-clause-goes
returns-clause-goes c =
    let l = length_rows c.args.self.now.width c.args.self.now.left c.args.self.now.words.now in
    let k = length_rows c.args.self.now.width (c.args.self.now.left - 1) c.split_at.result.1.now in
    record { on = λ _. (tt, tt, omega arith); keeps = tt; rests = λ _. tt }
