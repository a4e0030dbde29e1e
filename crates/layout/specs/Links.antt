-- The tree of an opening, and the numbers of the channels between its brokers.
use Rattle.std.specs.Prelude.{◌≡◌, ℕ, zero, suc, ◌+◌, ◌-◌, ◌*◌, ◌<◌, ◌≤◌, true, cond, List, [], ◌∷◌, length, nat_lt, slice_index}
use Rattle.layout.specs.Opening.{HangsTogether}
use Rattle.model.specs.Tree.{Tree, hangs, up, neighbours, has}

-- the tree of the brokers up to k, from the row that has at each broker's place the one it hangs on
unfoldable pub tree_of : List ℕ → ℕ → Tree
tree_of hung zero = []
tree_of hung (suc k) = slice_index hung (suc k) ∷ tree_of hung k

-- the number of the channel from a to b beside it. Of the two the one with the larger number hangs on the other, so each broker but the first has two
-- channels of its own: the one to the broker it hangs on, and the one back
abbrev pub link : ℕ → ℕ → ℕ
link a b = cond (nat_lt b a) (2 * (a - 1)) (2 * (b - 1) + 1)

-- the opening's tree is one, with the brokers hung on as they were given; and each channel has a number of its own
pub record LinksOf (hung : List ℕ) (brokers : ℕ) : Type 0 where
  pub together : hangs (tree_of hung (brokers - 1)) ≡ true
  pub many : length (tree_of hung (brokers - 1)) ≡ brokers - 1
  pub hung_on : (b : ℕ) → 0 < b → b < brokers → up (tree_of hung (brokers - 1)) b ≡ slice_index hung b
  pub within :
      (a b : ℕ) → a < brokers → has (neighbours (tree_of hung (brokers - 1)) a) b ≡ true → link a b < 2 * (brokers - 1)
  pub apart :
      (a b c d : ℕ) → a < brokers → c < brokers → has (neighbours (tree_of hung (brokers - 1)) a) b ≡ true → has (neighbours (tree_of hung (brokers - 1)) c) d ≡ true →
      link a b ≡ link c d → (a ≡ c) × (b ≡ d)

abbrev pub Links : Type 0
Links = (hung : List ℕ) (brokers : ℕ) → 1 ≤ brokers → HangsTogether brokers hung → LinksOf hung brokers
