use Rattle.std.proofs.Common.{◌≡◌, ◌-◌, arith}
use Rattle.layout.proofs.Openings.{hung_row}
use Rattle.layout.proofs.opening.hung_of.Goals as goal

pub returns : goal.returns
returns c =
    let p = hung_row c.args.brokers c.args.given.now (omega arith) (omega arith) (omega arith) in
    let z : c.args.brokers - 1 - 0 ≡ c.args.brokers - 1 = omega arith in
    cc
