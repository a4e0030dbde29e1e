use Rattle.std.proofs.Common.{◌≡◌, ◌+◌, ◌*◌, ◌≤◌, ℕ, List, ◌++◌, map, length, get_or}
use Rattle.cover.specs.Table.{held, inserted_all}
use Rattle.cover.specs.Rows.{listed}
use Rattle.broker.specs.Subscribers.{subscriber, subscribers, filters_of}
use Rattle.broker.proofs.subscribers.gather.Given as goal

abbrev pub invariant-loop-slot : goal.invariant-loop-slot
invariant-loop-slot l =
    (done : List (List ℕ))
    × (done ++ listed l.slot-iterator ≡ held (1 + 2 * l.m) l.part)
    × (inserted_all (2 * l.m) (filters_of (map subscriber (listed l.slot-iterator))) l.table ≡ inserted_all (2 * l.m) (filters_of (subscribers l.m l.part)) l.initial.table)
    × (get_or l.table 0 0 ≤ get_or l.initial.table 0 0 + length done)
