-- The messages of the model in the words of a channel.
use Rattle.std.specs.Prelude.{◌≡◌, ℕ, ◌+◌, ◌*◌, cond, List, [], ◌∷◌, ◌++◌, map, length, take, drop, replicate, ◌==◌, slice_index, slice_index_or}
use Rattle.std.specs.List.{AllByRecursion}
use Rattle.cover.specs.Table.{rows}
use Rattle.channel.specs.Ring.{Row, Holds, turned}
use Rattle.filter.specs.Filter.{Filter}
use Rattle.channel.specs.declared.batch.Change.{Change}
use Rattle.channel.specs.declared.batch.Change.TheVariants.{Add, Cut}
use Rattle.model.specs.Model.{Message, add, cut, notice, adds, cuts}

-- the words of a message in a network whose notices have m numbers: its kind, the notice's number or 0, then 2m numbers
abbrev pub row_for : ℕ → Message → Row
row_for m (add f) = 1 ∷ (0 ∷ f)
row_for m (cut f) = 2 ∷ (0 ∷ f)
row_for m (notice k e) = 3 ∷ (k ∷ (e ++ replicate m 0))

-- the message that words stand for; a row that is neither an add nor a cut is read as a notice
abbrev pub message_in : ℕ → Row → Message
message_in m r = cond (slice_index r 0 == 1) (add (drop 2 r)) (cond (slice_index r 0 == 2) (cut (drop 2 r)) (notice (slice_index r 1) (take m (drop 2 r))))

-- a filter has m ranges, and a notice m numbers
abbrev pub Sized : ℕ → Message → Type 0
Sized m (add f) = length f ≡ 2 * m
Sized m (cut f) = length f ≡ 2 * m
Sized m (notice k e) = length e ≡ m

-- the messages on a channel with room for so many, the oldest first: as many rows as it counts, from the slot on where its ring begins
unfoldable pub under_way : (room m : ℕ) → List ℕ → List Message
under_way room m ws = map (message_in m) (take (slice_index ws 1) (turned (slice_index ws 0) (rows (2 + 2 * m) room (drop 2 ws))))

-- a channel carries these messages
pub record Carries (room m : ℕ) (ms : List Message) (ws : List ℕ) : Type 0 where
  pub rows : Holds room (2 + 2 * m) (slice_index ws 0) (map (row_for m) ms) ws
  pub sized : AllByRecursion (Sized m) ms

-- the messages that tell of filters that are new, or no more
abbrev pub telling : Change → List Filter → List Message
telling Add fs = adds fs
telling Cut fs = cuts fs

-- the message at a place of a channel, the oldest at place 0
abbrev pub piece_in : List Message → ℕ → Message
piece_in ms i = slice_index_or ms i (notice 0 [])
