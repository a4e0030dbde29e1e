-- From one table to another, one filter at a time.
use Rattle.std.specs.Prelude.{◌≡◌, true, ◌||◌, ◌⊎◌, List, [], ◌∷◌}
use Rattle.filter.specs.Filter.{Filter}
use Rattle.cover.specs.Maximal.{among, put, without}
use Rattle.cover.specs.Sorted.{sorted}

-- the filters of the first list put into the table, one after the other
unfoldable pub puts : List Filter → List Filter → List Filter
puts [] gs = gs
puts (f ∷ fs) gs = puts fs (put f gs)

-- the filters of the first list taken out of the table, one after the other
unfoldable pub takes : List Filter → List Filter → List Filter
takes [] gs = gs
takes (f ∷ fs) gs = takes fs (without f gs)

-- a table on the way from one to another: in order, of nothing but the members of both, and with all those of one of them
pub record Between (old new gs : List Filter) : Type 0 where
  pub in_order : sorted gs ≡ true
  pub within : (f : Filter) → among f gs ≡ true → (among f old || among f new) ≡ true
  pub whole : ((f : Filter) → among f old ≡ true → among f gs ≡ true) ⊎ ((f : Filter) → among f new ≡ true → among f gs ≡ true)
