-- Parts that only grow: a count, then rows, the oldest first; unused words are zero.
use Rattle.std.specs.Prelude.{◌≡◌, ℕ, ◌≤◌, List, [], ◌∷◌, map, reverse, length, slice_index, slice_index_or}
use Rattle.cover.specs.Table.{held, laid}
use Rattle.model.specs.Model.{Delivery}

-- a row with the number of a notice
abbrev pub number_row : ℕ → List ℕ
number_row k = k ∷ []

abbrev pub number_of : List ℕ → ℕ
number_of r = slice_index r 0

-- the numbers that a part lists, the newest first
unfoldable pub numbers : List ℕ → List ℕ
numbers ws = reverse (map number_of (held 1 ws))

-- a part with room for 4,096 numbers lists these, the newest first
pub record Lists (ks ws : List ℕ) : Type 0 where
  pub words : ws ≡ laid 1 4097 (map number_row (reverse ks))
  pub fits : length ks ≤ 4096

-- a row with the number of a notice and the number of the subscriber that it was delivered to
abbrev pub delivery_row : Delivery → List ℕ
delivery_row h = h.what ∷ h.whom ∷ []

abbrev pub delivery_of : List ℕ → Delivery
delivery_of r = record { what = slice_index r 0; whom = slice_index r 1 }

-- the deliveries of a part, the oldest first
unfoldable pub deliveries : List ℕ → List Delivery
deliveries ws = map delivery_of (held 2 ws)

-- a part with room for 65,536 deliveries has these
pub record Delivers (hs : List Delivery) (ws : List ℕ) : Type 0 where
  pub words : ws ≡ laid 2 131073 (map delivery_row hs)
  pub fits : length hs ≤ 65536

-- the notice k delivered to each of the subscribers with these numbers, in their order
abbrev pub all_to : ℕ → List ℕ → List Delivery
all_to k ns = map (λ n. record { what = k; whom = n }) ns

-- the i-th of a list of deliveries; past its end there is none, and zeros stand for it
abbrev pub delivery_in : List Delivery → ℕ → Delivery
delivery_in hs i = slice_index_or hs i (record { what = 0; whom = 0 })
