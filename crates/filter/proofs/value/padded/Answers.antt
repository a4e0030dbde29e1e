use Rattle.std.proofs.Common.{◌≡◌, ◌-◌, arith}
use Rattle.filter.proofs.Padding.{padded_is}
use Rattle.filter.proofs.value.padded.Goals as goal

pub returns : goal.returns
returns g c =
    let p = padded_is g.row.N c.min-n.result c.args.numbers.now (omega arith) in
    let z : c.min-n.result - 0 ≡ c.min-n.result = omega arith in
    cc
