-- To which neighbours a notice goes on.
use Rattle.std.specs.Prelude.{ℕ, zero, suc, cond, not, ◌&&◌, List, [], ◌∷◌, ◌++◌, ◌==◌, slice_index}
use Rattle.filter.specs.Filter.{Filter, Notice}
use Rattle.cover.specs.Maximal.{any_matches}

-- of the first k neighbours those that a notice from this one goes on to, in their order: not the one that it came from, and only where it matches
-- a filter learned from there; the tables go by the neighbour's place in the list
unfoldable pub wanting : (ℕ → List Filter) → List ℕ → (from : ℕ) → Notice → ℕ → List ℕ
wanting table ns from e zero = []
wanting table ns from e (suc k) = wanting table ns from e k ++ cond (not (slice_index ns k == from) && any_matches (table k) e) (slice_index ns k ∷ []) []
