use Rattle.std.proofs.Common.{rules}
use Rattle.broker.proofs.Part.{over_slot}
use Rattle.broker.proofs.subscribers.write_slot.Goals as goal

pub returns : goal.returns
returns c = search (rules, over_slot)
