use Rattle.std.proofs.Common.{◌*◌, arith}
use Rattle.script.proofs.Fours.{read_over}
use Rattle.script.proofs.numbers.filter_at.Goals as goal

pub returns : goal.returns
returns c = read_over 16 (2 * c.args.ranges) c.args.input.now c.args.at _ (omega arith) c.read_numbers.ensures
