use Rattle.std.proofs.Common.{◌≡◌, ◌+◌, ◌-◌, ◌*◌, length, get_or, arith}
use Rattle.cover.proofs.TableLaws.{stored_pushed}
use Rattle.layout.proofs.log.push.Goals as goal

pub returns : goal.returns
returns c =
    let w = length c.args.row.now in
    let at = 1 + w * get_or c.args.log.now 0 0 in
    let e : at + w - at ≡ w = omega arith in
    let p = stored_pushed w c.args.log.now c.args.row.now (omega arith) in
    cc
