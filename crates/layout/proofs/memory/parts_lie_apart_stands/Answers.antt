use Rattle.std.proofs.Common.{arith}
use Rattle.layout.proofs.Frames.{parts_lie_apart}
use Rattle.layout.proofs.memory.parts_lie_apart_stands.Goals as goal

pub returns : goal.returns
returns c = λ p memory ys k i long within size. parts_lie_apart p memory ys k i (omega (arith, long)) within size
