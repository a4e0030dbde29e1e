-- Tables of filters: the maximal filters of a list, and what is new and what is no more between two tables.
use Rattle.std.specs.Prelude.{Bool, false, cond, not, ◌&&◌, ◌||◌, List, [], ◌∷◌}
use Rattle.filter.specs.Filter.{Filter, Notice, matches, covers, same, before}

-- the filter is a member of the list
unfoldable pub among : Filter → List Filter → Bool
among f [] = false
among f (g ∷ gs) = same f g || among f gs

-- put in order: into an ordered list, once
unfoldable pub put : Filter → List Filter → List Filter
put f [] = f ∷ []
put f (g ∷ gs) = cond (same f g) (g ∷ gs) (cond (before g f) (g ∷ put f gs) (f ∷ g ∷ gs))

-- taken out of a list, the first that is the same
unfoldable pub without : Filter → List Filter → List Filter
without f [] = []
without f (g ∷ gs) = cond (same f g) gs (g ∷ without f gs)

-- the members of a list, each once, in order
unfoldable pub ordered : List Filter → List Filter
ordered [] = []
ordered (f ∷ fs) = put f (ordered fs)

-- another filter of the list, a different one, covers f
unfoldable pub covered : Filter → List Filter → Bool
covered f [] = false
covered f (g ∷ gs) = (covers g f && not (same g f)) || covered f gs

-- those of the second list that no other filter of the first covers
unfoldable pub uncovered : List Filter → List Filter → List Filter
uncovered all [] = []
uncovered all (f ∷ fs) = cond (covered f all) (uncovered all fs) (f ∷ uncovered all fs)

-- the maximal filters of a list: those that no other, different one covers, each once, in order
unfoldable pub maximal : List Filter → List Filter
maximal fs = uncovered fs (ordered fs)

-- some filter of the list matches the notice
unfoldable pub any_matches : List Filter → Notice → Bool
any_matches [] e = false
any_matches (f ∷ fs) e = matches f e || any_matches fs e

-- some filter of the list covers f
unfoldable pub any_covers : List Filter → Filter → Bool
any_covers [] f = false
any_covers (g ∷ gs) f = covers g f || any_covers gs f

-- the members of the first list that the second lacks: what is new from the second to the first, and what is no more from the first to the second
unfoldable pub minus : List Filter → List Filter → List Filter
minus [] gs = []
minus (f ∷ fs) gs = cond (among f gs) (minus fs gs) (f ∷ minus fs gs)

-- those of the list that f does not cover
unfoldable pub outside : Filter → List Filter → List Filter
outside f [] = []
outside f (g ∷ gs) = cond (covers f g) (outside f gs) (g ∷ outside f gs)

-- into a table of maximal filters: nothing if a member covers f; else out with those that f covers, and f in its place
unfoldable pub insert : Filter → List Filter → List Filter
insert f gs = cond (any_covers gs f) gs (put f (outside f gs))
