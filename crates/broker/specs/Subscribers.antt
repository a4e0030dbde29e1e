-- A broker's subscribers, and their part of the memory: a count, then `room` slots of a number and a filter; unused words are zero.
use Rattle.std.specs.Prelude.{◌≡◌, ℕ, suc, ◌+◌, ◌*◌, ◌≤◌, Bool, false, cond, ◌||◌, List, [], ◌∷◌, map, length, take, drop, ◌==◌, slice_index}
use Rattle.std.specs.List.{AllByRecursion}
use Rattle.filter.specs.Filter.{Filter, Notice, matches}
use Rattle.cover.specs.Table.{held, stored, laid}

pub record Subscriber : Type 0 where
  pub number : ℕ
  pub filter : Filter

-- the words of a subscriber's slot, and the subscriber that they stand for
abbrev pub row_of : Subscriber → List ℕ
row_of s = s.number ∷ s.filter

abbrev pub subscriber : List ℕ → Subscriber
subscriber r = record { number = slice_index r 0; filter = drop 1 r }

-- a slot begins with this number
unfoldable pub has_number : ℕ → List ℕ → Bool
has_number n [] = false
has_number n (x ∷ xs) = x == n

-- the subscriber with this number and the first m ranges of a filter
abbrev pub newcomer : (m number : ℕ) → List ℕ → Subscriber
newcomer m number bounds = record { number = number; filter = take (2 * m) bounds }

-- the subscribers that a part holds, in the order in which they came
unfoldable pub subscribers : ℕ → List ℕ → List Subscriber
subscribers m ws = map subscriber (held (1 + 2 * m) ws)

-- the part with these in place of those that it held: slots that are freed are zero, and all past that is as it was
unfoldable pub with_subscribers : ℕ → List Subscriber → List ℕ → List ℕ
with_subscribers m rs ws = stored (1 + 2 * m) (map row_of rs) ws

-- the words of a part with room for so many that holds these subscribers
unfoldable pub encode : (room m : ℕ) → List Subscriber → List ℕ
encode room m rs = laid (1 + 2 * m) (1 + (1 + 2 * m) * room) (map row_of rs)

-- a part holds these subscribers
pub record Holds (room m : ℕ) (rs : List Subscriber) (ws : List ℕ) : Type 0 where
  pub words : ws ≡ encode room m rs
  pub wide : AllByRecursion (λ s. length s.filter ≡ 2 * m) rs
  pub fits : length rs ≤ room

-- the slots that are in use lie within the words
abbrev pub Whole : ℕ → List ℕ → Type 0
Whole m ws = 1 + (1 + 2 * m) * slice_index ws 0 ≤ length ws

-- all slots lie within the words, and those in use are no more than there are
abbrev pub Shape : (room m : ℕ) → List ℕ → Type 0
Shape room m ws = (length ws ≡ 1 + (1 + 2 * m) * room) × (slice_index ws 0 ≤ room)

unfoldable pub filters_of : List Subscriber → List Filter
filters_of [] = []
filters_of (r ∷ rs) = r.filter ∷ filters_of rs

-- a subscriber with this number is in the list
unfoldable pub known : ℕ → List Subscriber → Bool
known n [] = false
known n (r ∷ rs) = r.number == n || known n rs

-- how many stand before the first with this number; all, if none has it
unfoldable pub ahead : ℕ → List Subscriber → ℕ
ahead n [] = 0
ahead n (r ∷ rs) = cond (r.number == n) 0 (suc (ahead n rs))

-- the filter of the subscriber with this number
unfoldable pub filter_of : ℕ → List Subscriber → Filter
filter_of n [] = []
filter_of n (r ∷ rs) = cond (r.number == n) r.filter (filter_of n rs)

-- the list without the subscriber with this number
unfoldable pub dropped : ℕ → List Subscriber → List Subscriber
dropped n [] = []
dropped n (r ∷ rs) = cond (r.number == n) rs (r ∷ dropped n rs)

-- the numbers of those whose filter matches the notice, in their order
unfoldable pub reached : Notice → List Subscriber → List ℕ
reached e [] = []
reached e (r ∷ rs) = cond (matches r.filter e) (r.number ∷ reached e rs) (reached e rs)
