use Rattle.std.proofs.Common.{arith}
use Rattle.std.proofs.lemmas.List.{drop-drop}
use Rattle.std.proofs.lemmas.Grind.{common_steps}
use Rattle.script.proofs.reader.Reader.opening.Goals as goal

pub returns-clause-value : goal.returns-clause-value
returns-clause-value c = grind (arith, common_steps, drop-drop 2 c.args.self.now.at c.args.self.now.input.now)

pub returns-in_err-hung-clause-value : goal.returns-in_err-hung-clause-value
returns-in_err-hung-clause-value c = grind (arith, common_steps)

pub returns-in_err-opening-clause-value : goal.returns-in_err-opening-clause-value
returns-in_err-opening-clause-value c = grind (arith, common_steps)
