use Rattle.std.proofs.Common.{arith}
use Rattle.layout.proofs.Logged.{noted}
use Rattle.layout.proofs.log.note.Goals as goal

pub returns : goal.returns
returns c =
    record {
      words = c.push.ensures;
      holds = λ ks h. noted ks c.args.log.now _ c.args.number h (omega arith) c.push.ensures;
    }
