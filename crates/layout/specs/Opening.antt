-- What an opening is valid of, and which refusal comes first of one that is not.
use Rattle.std.specs.Prelude.{◌≡◌, ℕ, zero, suc, ◌-◌, ◌<◌, ◌≤◌, Bool, true, false, cond, ◌&&◌, List, ◌∷◌, take, Some, None, Option, nat_le, nat_lt, slice_index, slice_index_or}
use Rattle.filter.specs.Filter.{padded}
use Rattle.layout.specs.declared.refusal.Refusal.{Refusal}
use Rattle.layout.specs.declared.refusal.Refusal.TheVariants.{BadOpening}

-- each broker but the first hangs on one with a smaller number; hung has at the place of each broker the one that it hangs on
abbrev pub HangsTogether : ℕ → List ℕ → Type 0
HangsTogether brokers hung = (b : ℕ) → 0 < b → b < brokers → slice_index hung b < b

-- filters of 1 to 8 ranges, 1 to 16 brokers in a tree, room for 1 to 64 subscribers a broker and 1 to 32,768 messages a channel
abbrev pub Valid : ℕ → ℕ → List ℕ → ℕ → ℕ → Type 0
Valid ranges brokers hung subscribers messages =
    ((1 ≤ ranges) × (ranges ≤ 8)) × ((1 ≤ brokers) × (brokers ≤ 16)) × ((1 ≤ subscribers) × (subscribers ≤ 64)) × ((1 ≤ messages) × (messages ≤ 32768)) × HangsTogether brokers hung

abbrev pub within : ℕ → ℕ → ℕ → Bool
within low n high = nat_le low n && nat_le n high

-- the brokers hung on, as they are given: for the second broker, the third and so on. One that is lacking hangs on none
abbrev pub hangs : List ℕ → ℕ → Bool
hangs given b = nat_lt (slice_index_or given (b - 1) b) b

-- the first of n brokers from b on that hangs on none before it
abbrev pub first_loose : List ℕ → ℕ → ℕ → Option ℕ
first_loose given b zero = None
first_loose given b (suc n) = cond (hangs given b) (first_loose given (suc b) n) (Some b)

abbrev pub at_broker : Option ℕ → Option Refusal
at_broker None = None
at_broker (Some b) = Some (BadOpening b)

-- the first refusal that applies, if any: the ranges, the count of brokers and the rooms, each at 0, then the first broker that hangs on none before it
abbrev pub opening_refusal : ℕ → ℕ → List ℕ → ℕ → ℕ → Option Refusal
opening_refusal ranges brokers given subscribers messages =
    cond (within 1 ranges 8 && (within 1 brokers 16 && (within 1 subscribers 64 && within 1 messages 32768)))
    (at_broker (first_loose given 1 (brokers - 1)))
    (Some (BadOpening 0))

-- the brokers hung on, each at its broker's place: 0 for the first, which hangs on none, and for those past the last
abbrev pub hung_of : ℕ → List ℕ → List ℕ
hung_of brokers given = padded 16 (0 ∷ take (brokers - 1) given)

-- what `first_loose` finds, in other words: of the brokers from the second on, the one with the smallest number that hangs on none before it
abbrev pub FindsTheFirstLoose : Type 0
FindsTheFirstLoose =
    (given : List ℕ) (brokers : ℕ) →
    ((b : ℕ) → first_loose given 1 (brokers - 1) ≡ Some b → (0 < b) × (b < brokers) × (hangs given b ≡ false) × ((k : ℕ) → 0 < k → k < b → hangs given k ≡ true))
    × (first_loose given 1 (brokers - 1) ≡ None → (k : ℕ) → 0 < k → k < brokers → hangs given k ≡ true)
