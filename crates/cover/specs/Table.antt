-- Tables of filters in words: a count, then the filters, each of the same width.
use Rattle.std.specs.Prelude.{◌≡◌, ℕ, zero, suc, ◌+◌, ◌-◌, ◌*◌, ◌≤◌, Bool, true, cond, not, ◌&&◌, nat_lt, List, [], ◌∷◌, ◌++◌, length, take, drop, replicate, slice_index, slice_index_or, Ok, Err, Result}
use Rattle.filter.specs.Filter.{Filter, same, before}
use Rattle.cover.specs.Maximal.{among, insert}

-- n rows of w words
unfoldable pub rows : ℕ → ℕ → List ℕ → List Filter
rows w zero xs = []
rows w (suc n) xs = take w xs ∷ rows w n (drop w xs)

-- the rows joined
unfoldable pub written : List Filter → List ℕ
written [] = []
written (f ∷ fs) = f ++ written fs

-- each filter of the list has w words
abbrev pub Wide : ℕ → List Filter → Type 0
Wide w fs = (f : Filter) → among f fs ≡ true → length f ≡ w

-- the filters that a table holds
unfoldable pub held : ℕ → List ℕ → List Filter
held w t = rows w (slice_index t 0) (drop 1 t)

-- all the filters that a table counts are there, and room for one more
abbrev pub Whole : ℕ → List ℕ → Type 0
Whole w t = 1 + w * slice_index t 0 ≤ length t

abbrev pub RoomForOne : ℕ → List ℕ → Type 0
RoomForOne w t = 1 + (w * slice_index t 0 + w) ≤ length t

-- the first k words zero
abbrev pub blanked : ℕ → List ℕ → List ℕ
blanked k xs = replicate k 0 ++ drop k xs

-- the table with these filters in place of those that it held: rows that are freed are zero, and all past that is as it was
unfoldable pub stored : ℕ → List Filter → List ℕ → List ℕ
stored w fs t = length fs ∷ (written fs ++ blanked (w * (slice_index t 0 - length fs)) (drop (1 + w * length fs) t))

-- the table with its filters changed
abbrev pub changed : ℕ → (List Filter → List Filter) → List ℕ → List ℕ
changed w change t = stored w (change (held w t)) t

-- how many filters stand before the first that passes; all, if none does
unfoldable pub first : (Filter → Bool) → List Filter → ℕ
first p [] = 0
first p (f ∷ fs) = cond (p f) 0 (suc (first p fs))

-- the place of f in a list in order, or else the place where it belongs: that of the first filter that does not come before it
unfoldable pub found : Filter → List Filter → Result ℕ ℕ
found f gs =
    let at = first (λ g. not (before g f)) gs in
    cond (nat_lt at (length gs) && same f (slice_index_or gs at [])) (Ok at) (Err at)

-- the table of n words that holds these filters and nothing else
unfoldable pub laid : ℕ → ℕ → List Filter → List ℕ
laid w n fs = length fs ∷ (written fs ++ replicate (n - (1 + w * length fs)) 0)

-- the filters inserted, one after the other
unfoldable pub inserted_all : ℕ → List Filter → List ℕ → List ℕ
inserted_all w [] t = t
inserted_all w (f ∷ fs) t = inserted_all w fs (changed w (insert f) t)
