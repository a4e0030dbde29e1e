use Rattle.std.proofs.Common.{arith}
use Rattle.std.proofs.lemmas.Bool.Decides.{nat_tests}
use Rattle.steps.proofs.Hanging.{hangs_here}
use Rattle.steps.proofs.commands.shared.hangs_on.Goals as goal

pub returns-then-a-gt0 : goal.returns-then-a-gt0
returns-then-a-gt0 c =
    let h = hangs_here c.args.opening.now c.args.a c.args.b c.requires in
    grind (arith, nat_tests)

pub returns-else-a-gt0 : goal.returns-else-a-gt0
returns-else-a-gt0 c =
    let h = hangs_here c.args.opening.now c.args.a c.args.b c.requires in
    grind (arith, nat_tests)
