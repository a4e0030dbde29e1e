-- Tables in order: each filter before all that follow, so each once.
use Rattle.std.specs.Prelude.{Bool, true, ◌&&◌, List, [], ◌∷◌}
use Rattle.filter.specs.Filter.{Filter, before}

-- the filter comes before each of the list
unfoldable pub before_all : Filter → List Filter → Bool
before_all f [] = true
before_all f (g ∷ gs) = before f g && before_all f gs

unfoldable pub sorted : List Filter → Bool
sorted [] = true
sorted (f ∷ fs) = before_all f fs && sorted fs
