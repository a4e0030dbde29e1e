use Rattle.steps.proofs.Options.{missed}
use Rattle.network.proofs.Pieces.{no_first, no_second}
use Rattle.network.proofs.network.reading.beside.Goals as goal

pub returns-in_err-a : goal.returns-in_err-a
returns-in_err-a c = rw c.from_residual.ensures (no_first c.args.opening.now c.args.from c.args.to (missed _ _ c.in_err-a.ensures))

pub returns-in_err-b : goal.returns-in_err-b
returns-in_err-b c = rw c.from_residual-in_err-b.ensures (no_second c.args.opening.now c.args.from c.args.to (missed _ _ c.in_err-b.ensures))
