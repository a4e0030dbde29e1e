use Rattle.std.proofs.Common.{◌≡◌, arith}
use Rattle.layout.specs.Parts.{tree}
use Rattle.model.specs.Tree.{edge}
use Rattle.model.proofs.Tree.{edge_up}
use Rattle.steps.proofs.Hanging.{edge_answer}
use Rattle.steps.proofs.commands.shared.hang_together.Goals as goal

pub returns-then-hangs_on : goal.returns-then-hangs_on
returns-then-hangs_on c =
    let o = c.args.opening.now in
    let u = edge_up (tree o) c.args.a c.args.b in
    let e : c.hangs_on.result ≡ edge (tree o) c.args.a c.args.b = grind arith in
    record { answer = e; beside = edge_answer o c.args.a c.args.b c.requires.0 c.requires.1 _ e }

pub returns-else-hangs_on : goal.returns-else-hangs_on
returns-else-hangs_on c =
    let o = c.args.opening.now in
    let u = edge_up (tree o) c.args.a c.args.b in
    let e : c.hangs_on-else-hangs_on.result ≡ edge (tree o) c.args.a c.args.b = grind arith in
    record { answer = e; beside = edge_answer o c.args.a c.args.b c.requires.0 c.requires.1 _ e }
