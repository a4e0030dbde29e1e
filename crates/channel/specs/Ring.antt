-- A channel in words: where its ring begins, a count, then `room` slots of `width` words, one for each message; unused words are zero.
use Rattle.std.specs.Prelude.{◌≡◌, ℕ, ◌+◌, ◌-◌, ◌*◌, ◌<◌, ◌≤◌, cond, List, [], ◌∷◌, ◌++◌, length, take, drop, replicate, ◌==◌, nat_lt, slice_index, slice_set}
use borrow.Rule.Slice.PartMut.{put_mid}
use Rattle.std.specs.List.{AllByRecursion}
use Rattle.cover.specs.Table.{written}

-- the words of a message
abbrev pub Row : Type 0
Row = List ℕ

-- each row has this many words
abbrev pub Wide : ℕ → List Row → Type 0
Wide width xs = AllByRecursion (λ x. length x ≡ width) xs

-- a list turned: what stands from place k on comes first
abbrev pub turned : {X : Type 0} → ℕ → List X → List X
turned k ys = drop k ys ++ take k ys

-- the rows in their order, and the free slots behind them
abbrev pub filled : (room width : ℕ) → List Row → List Row
filled room width xs = xs ++ replicate (room - length xs) (replicate width 0)

-- the slots of a ring: turned so that the first row stands at the slot `begin`
abbrev pub slots : (room width begin : ℕ) → List Row → List Row
slots room width begin xs = turned (room - begin) (filled room width xs)

-- the words of a channel whose ring begins at the slot `begin` and that holds these rows, the oldest first
unfoldable pub encode : (room width begin : ℕ) → List Row → List ℕ
encode room width begin xs = begin ∷ (length xs ∷ written (slots room width begin xs))

-- a channel holds these rows, and its ring begins at this slot; an empty one begins at the first
pub record Holds (room width begin : ℕ) (xs : List Row) (ws : List ℕ) : Type 0 where
  pub words : ws ≡ encode room width begin xs
  pub wide : Wide width xs
  pub fits : length xs ≤ room
  pub within : begin < room
  pub anew : length xs ≡ 0 → begin ≡ 0

-- what every channel's words are like, so that a slot can be found
abbrev pub Shape : (room width : ℕ) → List ℕ → Type 0
Shape room width ws = (length ws ≡ 2 + width * room) × (slice_index ws 0 < room) × (slice_index ws 1 ≤ room)

-- the slot that is i on from `begin`: past the last it goes on at the first
abbrev pub turn : (room begin i : ℕ) → ℕ
turn room begin i = cond (nat_lt i (room - begin)) (begin + i) (i - (room - begin))

-- the word where the slot starts that is i on from where the ring begins
abbrev pub start : (room width : ℕ) → List ℕ → ℕ → ℕ
start room width ws i = 2 + width * turn room (slice_index ws 0) i

-- the words of that slot
abbrev pub row : (room width : ℕ) → List ℕ → ℕ → Row
row room width ws i = take width (drop (start room width ws i) ws)

-- with a row behind the last, and unchanged if there is no room
unfoldable pub appended : (room width : ℕ) → Row → List ℕ → List ℕ
appended room width x ws =
    cond (nat_lt (slice_index ws 1) room) (slice_set (put_mid (start room width ws (slice_index ws 1)) width ws x) 1 (slice_index ws 1 + 1)) ws

-- where the ring begins when the oldest is gone: at the next slot, and at the first if nothing is left
abbrev pub next : (room begin count : ℕ) → ℕ
next room begin count = cond (count == 1) 0 (turn room begin 1)

-- without the oldest
unfoldable pub taken : (room width : ℕ) → List ℕ → List ℕ
taken room width ws =
    cond (slice_index ws 1 == 0) ws
    (slice_set (slice_set (put_mid (start room width ws 0) width ws (replicate width 0)) 0 (next room (slice_index ws 0) (slice_index ws 1))) 1 (slice_index ws 1 - 1))

-- rows appended, one after the other
unfoldable pub appended_all : (room width : ℕ) → List Row → List ℕ → List ℕ
appended_all room width [] ws = ws
appended_all room width (x ∷ xs) ws = appended_all room width xs (appended room width x ws)
