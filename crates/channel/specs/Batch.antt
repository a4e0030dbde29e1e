-- Filters that are all added, or all cut, and the words of the messages that say so.
use Rattle.std.specs.Prelude.{ℕ, List, ◌∷◌, map}
use Rattle.filter.specs.Filter.{Filter}
use Rattle.channel.specs.declared.batch.Change.{Change}
use Rattle.channel.specs.declared.batch.Change.TheVariants.{Add, Cut}
use Rattle.channel.specs.Ring.{Row}

-- the words of the message that a filter is added, or cut
abbrev pub told : Change → List ℕ → Row
told Add f = 1 ∷ (0 ∷ f)
told Cut f = 2 ∷ (0 ∷ f)

-- a message for each of the filters of a list
abbrev pub all_told : Change → List Filter → List Row
all_told change filters = map (told change) filters
