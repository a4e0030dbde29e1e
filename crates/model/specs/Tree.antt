-- The tree of brokers: which broker hangs on which, which are beside each other, and the next hop from one towards another.
use Rattle.std.specs.Prelude.{◌≡◌, ℕ, zero, suc, ◌+◌, ◌-◌, ◌≤◌, Bool, true, false, cond, not, ◌&&◌, ◌||◌, List, [], ◌∷◌, ◌++◌, length, ◌==◌, ◌≢◌, nat_le, nat_lt}

-- the brokers that the others hang on, the newest first: in p ∷ t the broker with the number suc (length t) hangs on p. Broker 0 hangs on none, so the
-- brokers are the numbers 0 to length t
abbrev pub Tree : Type 0
Tree = List ℕ

-- each broker hangs on one with a smaller number
unfoldable pub hangs : Tree → Bool
hangs [] = true
hangs (p ∷ t) = nat_le p (length t) && hangs t

-- the broker that b hangs on
unfoldable pub up : Tree → ℕ → ℕ
up [] b = 0
up (p ∷ t) b = cond (b == suc (length t)) p (up t b)

-- the brokers up to k that hang on b, by number
unfoldable pub under : Tree → ℕ → ℕ → List ℕ
under t b zero = []
under t b (suc k) = cond (up t (suc k) == b) (under t b k ++ suc k ∷ []) (under t b k)

-- the brokers that b hangs together with, in the order of telling: the one it hangs on, then those that hang on it by number
unfoldable pub neighbours : Tree → ℕ → List ℕ
neighbours t zero = under t zero (length t)
neighbours t (suc b) = up t (suc b) ∷ under t (suc b) (length t)

-- the number is a member of the list
unfoldable pub has : List ℕ → ℕ → Bool
has [] n = false
has (m ∷ ms) n = m == n || has ms n

-- a and b hang together
unfoldable pub edge : Tree → ℕ → ℕ → Bool
edge [] a b = false
edge (p ∷ t) a b = ((a == suc (length t) && b == p) || (b == suc (length t) && a == p)) || edge t a b

-- the next hop from b towards c: the broker beside b that lies towards c; b itself if b is c. The newest broker is a leaf: from it all others lie
-- over the one it hangs on, and towards it the way is the one to that one, and from that one the leaf itself
unfoldable pub hop : Tree → (c b : ℕ) → ℕ
hop [] c b = b
hop (p ∷ t) c b =
    cond (b == suc (length t)) (cond (c == suc (length t)) b p) (cond (c == suc (length t)) (cond (b == p) c (hop t p b)) (hop t c b))

-- how many hops it is from b to c
unfoldable pub distance : Tree → (c b : ℕ) → ℕ
distance [] c b = 0
distance (p ∷ t) c b =
    cond
    (b == suc (length t))
    (cond (c == suc (length t)) 0 (suc (distance t c p)))
    (cond (c == suc (length t)) (suc (distance t p b)) (distance t c b))

-- falls along every way that does not turn back: from b on to n, first up the tree and then down
unfoldable pub rank : Tree → (b n : ℕ) → ℕ
rank t b n = cond (nat_lt n b) (length t + n) (length t - n)

-- a is a broker that hangs on b
unfoldable pub hangs_on : Tree → ℕ → ℕ → Bool
hangs_on t a b = (nat_lt 0 a && nat_le a (length t)) && b == up t a

-- no broker stands twice in the list
unfoldable pub distinct : List ℕ → Bool
distinct [] = true
distinct (n ∷ ns) = not (has ns n) && distinct ns

-- the tree is what it should be
pub record TreeFacts (t : Tree) : Type 0 where
  -- beside each other are those of which one hangs on the other
  pub who_is_beside : (a b : ℕ) → a ≤ length t → has (neighbours t a) b ≡ (hangs_on t a b || hangs_on t b a)
  pub once : (a : ℕ) → a ≤ length t → distinct (neighbours t a) ≡ true
  pub not_itself : (a : ℕ) → a ≤ length t → has (neighbours t a) a ≡ false
  pub both_ways : (a b : ℕ) → a ≤ length t → b ≤ length t → has (neighbours t a) b ≡ has (neighbours t b) a
  -- the next hop towards c is beside, and one hop nearer
  pub there : (b : ℕ) → hop t b b ≡ b
  pub towards : (c b : ℕ) → c ≤ length t → b ≤ length t → (b ≢ c) → has (neighbours t b) (hop t c b) ≡ true
  pub nearer : (c b : ℕ) → c ≤ length t → b ≤ length t → (b ≢ c) → suc (distance t c (hop t c b)) ≡ distance t c b
  -- of two brokers beside each other just one lies towards c, seen from the other
  pub one_way : (c b n : ℕ) → c ≤ length t → b ≤ length t → has (neighbours t b) n ≡ true → (hop t c b == n) ≡ not (hop t c n == b)

abbrev pub Trees : Type 0
Trees = (t : Tree) → hangs t ≡ true → TreeFacts t
