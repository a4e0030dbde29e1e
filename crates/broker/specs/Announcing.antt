-- What a broker has learned from its neighbours, and what it has to announce to one of them.
use Rattle.std.specs.Prelude.{◌≡◌, ℕ, ◌+◌, ◌*◌, ◌≤◌, cond, List, [], ◌∷◌, ◌++◌, map, length, ◌==◌, slice_index_or}
use Rattle.std.specs.List.{AllByRecursion}
use Rattle.filter.specs.Filter.{Filter}
use Rattle.cover.specs.Maximal.{maximal}
use Rattle.cover.specs.Table.{Wide, Whole, held, laid}
use Rattle.broker.specs.Subscribers.{Subscriber, filters_of}
use Rattle.broker.specs.declared.neighbour.Neighbour.{Neighbour}

-- a table with room for so many filters holds these
pub record Keeps (room m : ℕ) (fs : List Filter) (ws : List ℕ) : Type 0 where
  pub words : ws ≡ laid (2 * m) (1 + 2 * m * room) fs
  pub wide : Wide (2 * m) fs
  pub fits : length fs ≤ room

-- what the tables of these brokers hold, but for the one of n
unfoldable pub from_others : (ℕ → List Filter) → ℕ → List ℕ → List Filter
from_others table n [] = []
from_others table n (k ∷ ks) = cond (k == n) (from_others table n ks) (table k ++ from_others table n ks)

-- what a broker has to announce to n beside it: the maximal filters of its own subscribers and of what it has learned from the others beside it
unfoldable pub to_announce : List Subscriber → (ℕ → List Filter) → List ℕ → ℕ → List Filter
to_announce own table ns n = maximal (filters_of own ++ from_others table n ns)

-- the filters learned from a neighbour
abbrev pub learned_from : ℕ → Neighbour → List Filter
learned_from m n = held (2 * m) n.learned.now

-- all the filters that the tables of these neighbours count are there
abbrev pub Learned : ℕ → List Neighbour → Type 0
Learned m ns = AllByRecursion (λ n. Whole (2 * m) n.learned.now) ns

-- what was learned from the j-th of these neighbours
abbrev pub table_at : ℕ → List Neighbour → ℕ → List Filter
table_at m ns j = slice_index_or (map (learned_from m) ns) j []

-- what was learned from these neighbours, but for n
unfoldable pub others : ℕ → List Neighbour → ℕ → List Filter
others m [] n = []
others m (k ∷ ks) n = cond (k.broker == n) (others m ks n) (learned_from m k ++ others m ks n)

-- all that a broker knows but from n: its subscribers' filters, and what it has learned from the other neighbours
abbrev pub known_but : ℕ → (own : List Subscriber) → List Neighbour → ℕ → List Filter
known_but m own ns n = filters_of own ++ others m ns n
