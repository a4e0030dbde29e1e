-- How many commands of each kind there are.
use Rattle.std.specs.Prelude.{ℕ, ◌+◌}
use Rattle.layout.specs.declared.command.Command.{Command}
use Rattle.layout.specs.declared.command.Command.TheVariants.{Join, Leave, Post, Carry}
use Rattle.play.specs.declared.Tally.{Tally}

abbrev pub total : Tally → ℕ
total t = t.joins + t.leaves + t.posts + t.carries

-- one command more
abbrev pub counted : Tally → Command → Tally
counted t (Join broker number filter) = record t { joins = t.joins + 1 }
counted t (Leave broker number) = record t { leaves = t.leaves + 1 }
counted t (Post broker number notice) = record t { posts = t.posts + 1 }
counted t (Carry from to) = record t { carries = t.carries + 1 }
