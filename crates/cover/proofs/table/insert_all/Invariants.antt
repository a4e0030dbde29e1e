use Rattle.std.proofs.Common.{◌≡◌, ◌+◌, ◌≤◌, List, ◌++◌, length, get_or}
use Rattle.filter.specs.Filter.{Filter}
use Rattle.cover.specs.Table.{inserted_all}
use Rattle.cover.specs.Rows.{listed}
use Rattle.cover.proofs.table.insert_all.Given as goal

abbrev pub invariant-loop-filter : goal.invariant-loop-filter
invariant-loop-filter l =
    (done : List Filter)
    × (done ++ listed l.filter-iterator ≡ listed l.list)
    × (inserted_all l.list.width (listed l.filter-iterator) l.table ≡ inserted_all l.list.width (listed l.list) l.initial.table)
    × (get_or l.table 0 0 ≤ get_or l.initial.table 0 0 + length done)
