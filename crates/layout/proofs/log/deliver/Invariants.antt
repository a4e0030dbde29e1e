use Rattle.std.proofs.Common.{◌≡◌, ◌++◌, map, take}
use Rattle.cover.specs.Table.{held, stored}
use Rattle.layout.specs.Logs.{delivery_row, all_to}
use Rattle.layout.proofs.log.deliver.Given as goal

abbrev pub invariant-loop-subscriber : goal.invariant-loop-subscriber
invariant-loop-subscriber l = l.log ≡ stored 2 (held 2 l.initial.log ++ map delivery_row (all_to l.notice (take l.subscriber-index l.whom))) l.initial.log
