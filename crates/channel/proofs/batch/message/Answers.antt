use Rattle.std.proofs.Common.{arith}
use Rattle.channel.proofs.Batches.{take_padded}
use Rattle.channel.proofs.batch.message.Goals as goal

pub returns-in-Add : goal.returns-in-Add
returns-in-Add c = grind (arith, take_padded)

pub returns-in-Cut : goal.returns-in-Cut
returns-in-Cut c = grind (arith, take_padded)
