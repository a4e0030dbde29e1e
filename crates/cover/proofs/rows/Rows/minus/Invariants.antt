use Rattle.std.proofs.Common.{◌≡◌, List, ◌++◌}
use Rattle.filter.specs.Filter.{Filter}
use Rattle.cover.specs.Rows.{listed}
use Rattle.cover.proofs.Keeping.{Picked}
use Rattle.cover.proofs.rows.Rows.minus.Given as goal

abbrev pub invariant-loop-row : goal.invariant-loop-row
invariant-loop-row l = (done : List Filter) × (done ++ listed l.row-iterator ≡ listed l.self) × Picked (listed l.others) l.self.width l.initial.out done l.out l.many
