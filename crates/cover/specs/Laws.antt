-- What holds of every list of filters: the maximal filters stand for the list, and the differences between two tables lead from one to the other.
use Rattle.std.specs.Prelude.{◌≡◌, ℕ, ◌+◌, ◌*◌, ◌≤◌, true, not, ◌&&◌, ◌⊎◌, List, [], ◌∷◌, ◌++◌, length}
use Rattle.filter.specs.Filter.{Filter, Notice, covers}
use Rattle.cover.specs.Maximal.{among, covered, maximal, any_matches, any_covers, minus, without, insert}
use Rattle.cover.specs.Sorted.{sorted}
use Rattle.cover.specs.Replay.{puts, takes, Between}
use Rattle.cover.specs.Table.{Wide, changed, laid, inserted_all}

-- the members are those that no other covers, and they stand in order, each once
abbrev pub MaximalMembers : Type 0
MaximalMembers =
    (fs : List Filter) → (sorted (maximal fs) ≡ true) × ((f : Filter) → among f (maximal fs) ≡ (among f fs && not (covered f fs)))

-- a sorted table is known by its members
abbrev pub SortedByMembers : Type 0
SortedByMembers =
    (fs gs : List Filter) → sorted fs ≡ true → sorted gs ≡ true → ((f : Filter) → among f fs ≡ among f gs) → fs ≡ gs

-- of the maximal filters none covers another
abbrev pub MaximalAntichain : Type 0
MaximalAntichain =
    (fs : List Filter) (f g : Filter) → among f (maximal fs) ≡ true → among g (maximal fs) ≡ true → covers f g ≡ true → f ≡ g

-- each filter of the list is covered by one of them, if it is a list of ranges at all: then it covers itself. And they cover nothing that the list
-- does not
pub record MaximalCover : Type 0 where
  pub each : (fs : List Filter) (f : Filter) → among f fs ≡ true → covers f f ≡ true → any_covers (maximal fs) f ≡ true
  pub same_covered : (fs : List Filter) (f : Filter) → any_covers (maximal fs) f ≡ any_covers fs f

-- they match exactly the notices that the list matches
abbrev pub MaximalMatch : Type 0
MaximalMatch = (fs : List Filter) (e : Notice) → any_matches (maximal fs) e ≡ any_matches fs e

-- lists with the same members have the same maximal filters
abbrev pub MaximalByMembers : Type 0
MaximalByMembers = (fs gs : List Filter) → ((f : Filter) → among f fs ≡ among f gs) → maximal fs ≡ maximal gs

-- the maximal filters of a part may stand for the part
abbrev pub MaximalOfPart : Type 0
MaximalOfPart = (fs gs hs : List Filter) → maximal (fs ++ (maximal gs ++ hs)) ≡ maximal (fs ++ (gs ++ hs))

-- the maximal filters are a fold of insert
abbrev pub MaximalByInsert : Type 0
MaximalByInsert = (f : Filter) (fs : List Filter) → maximal (f ∷ fs) ≡ insert f (maximal fs)

-- at most the one filter
abbrev pub AtMost : Filter → List Filter → Type 0
AtMost f gs = (gs ≡ []) ⊎ (gs ≡ f ∷ [])

-- one filter more makes at most that one new, and one filter less takes at most that one away
pub record OneChange : Type 0 where
  pub more : (f : Filter) (fs : List Filter) → AtMost f (minus (maximal (f ∷ fs)) (maximal fs))
  pub less : (f : Filter) (fs : List Filter) → AtMost f (minus (maximal fs) (maximal (without f fs)))

-- what is new put in and then what is no more taken out leads from the old table to the new, and every table on the way lies between the two
pub record Leads (old new : List Filter) : Type 0 where
  pub arrives : takes (minus old new) (puts (minus new old) old) ≡ new
  pub putting : (done rest : List Filter) → minus new old ≡ done ++ rest → Between old new (puts done old)
  pub taking : (done rest : List Filter) → minus old new ≡ done ++ rest → Between old new (takes done (puts (minus new old) old))

abbrev pub ReplayLeads : Type 0
ReplayLeads = (old new : List Filter) → sorted old ≡ true → sorted new ≡ true → Leads old new

-- a table between two covers what both cover and matches what both match
pub record BetweenKeeps : Type 0 where
  pub covering : (old new gs : List Filter) (f : Filter) → Between old new gs → any_covers old f ≡ true → any_covers new f ≡ true → any_covers gs f ≡ true
  pub matching : (old new gs : List Filter) (e : Notice) → Between old new gs → any_matches old e ≡ true → any_matches new e ≡ true → any_matches gs e ≡ true

-- a table in words that holds its filters and nothing else, so that two that hold the same are equal word for word, stays one through every
-- change; and inserted into a table of maximal filters, the filters of a list give the table of the maximal filters of all
pub record TablesLaid : Type 0 where
  pub change : (w n : ℕ) (by : List Filter → List Filter) (fs : List Filter) → Wide w fs → 1 + w * length fs ≤ n → changed w by (laid w n fs) ≡ laid w n (by fs)
  pub inserts : (w n : ℕ) (fs gs : List Filter) → Wide w gs → Wide w fs → 1 + w * (length (maximal gs) + length fs) ≤ n → inserted_all w fs (laid w n (maximal gs)) ≡ laid w n (maximal (gs ++ fs))
