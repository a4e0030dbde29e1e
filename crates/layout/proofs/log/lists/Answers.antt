use Rattle.std.proofs.Common.{◌∙◌, arith}
use Rattle.layout.proofs.Logged.{listed}
use Rattle.layout.proofs.log.lists.Goals as goal

pub returns : goal.returns
returns c = c.contains.ensures.value ∙ listed c.args.log.now c.args.number (omega arith)
