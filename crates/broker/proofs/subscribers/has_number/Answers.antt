use Rattle.std.proofs.Common.{sym, arith}
use Rattle.broker.proofs.Slots.{begins, begins_none}
use Rattle.broker.proofs.subscribers.has_number.Goals as goal

pub returns-in-empty : goal.returns-in-empty
returns-in-empty c = sym (begins_none c.args.number c.args.slot.now (omega arith))

pub returns-in-len1-up : goal.returns-in-len1-up
returns-in-len1-up c = sym (begins c.args.number c.args.slot.now (omega arith))
