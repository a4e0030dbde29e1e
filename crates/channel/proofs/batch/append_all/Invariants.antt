use Rattle.std.proofs.Common.{◌≡◌, ℕ, ◌+◌, ◌*◌, List, ◌++◌, get_or, length}
use Rattle.cover.specs.Rows.{listed}
use Rattle.channel.specs.Ring.{Shape, appended_all}
use Rattle.channel.specs.Batch.{all_told}
use Rattle.channel.proofs.batch.append_all.Given as goal

-- what is left of the list, appended now, makes what the whole list appended at first makes
abbrev pub invariant-loop-filter : goal.invariant-loop-filter
invariant-loop-filter l =
    (done : List (List ℕ))
    × (done ++ listed l.filter-iterator ≡ listed l.filters)
    × (appended_all l.room (2 + 2 * l.m) (all_told l.change (listed l.filter-iterator)) l.channel ≡ appended_all l.room (2 + 2 * l.m) (all_told l.change (listed l.filters)) l.initial.channel)
    × Shape l.room (2 + 2 * l.m) l.channel
    × (get_or l.channel 1 0 ≡ get_or l.initial.channel 1 0 + length done)
