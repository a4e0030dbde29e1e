-- What holds of every network that commands lead to from the empty one.
use Rattle.std.specs.Prelude.{◌≡◌, ℕ, suc, ◌+◌, ◌*◌, ◌≤◌, Bool, true, false, cond, List, [], ◌∷◌, length, ◌==◌, nat_le}
use Rattle.filter.specs.Filter.{Filter}
use Rattle.cover.specs.Sorted.{sorted}
use Rattle.model.specs.Tree.{Tree, hop, has, edge, distinct}
use Rattle.model.specs.Model.{Subscriber, Message, Network, announcement}
use Rattle.model.specs.Promise.{replay, lasts, times, copies, total, brokers_behind}

-- what is announced is what is to announce, what was learned lags behind it by the messages under way, and only brokers beside each other have messages
-- under way
pub record Tables (t : Tree) (s : Network) : Type 0 where
  pub only_beside : (x n : ℕ) → edge t x n ≡ false → s.channel x n ≡ []
  -- once all that is under way has arrived, n has learned what x announced to it
  pub replays : (x n : ℕ) → edge t x n ≡ true → replay (s.channel x n) (s.learned n x) ≡ s.announced x n
  pub learned_sorted : (x n : ℕ) → sorted (s.learned x n) ≡ true
  pub announced_sorted : (x n : ℕ) → sorted (s.announced x n) ≡ true
  -- no broker owes a neighbour tidings
  pub announces : (x n : ℕ) → edge t x n ≡ true → s.announced x n ≡ announcement t s x n

-- how many copies of notice k are on the channels that point towards broker c
unfoldable pub ahead : Tree → (ℕ → ℕ → List Message) → (k c : ℕ) → ℕ
ahead t channel k c = total (λ a. copies k (channel a (hop t c a))) (suc (length t))

-- 1 if the test passes
abbrev pub one : Bool → ℕ
one v = cond v 1 0

-- .. and 1 more if the notice has arrived at c
unfoldable pub load : Tree → Network → (k c : ℕ) → ℕ
load t s k c = ahead t s.channel k c + one (has (s.arrived c) k)

-- a number that was not posted is nowhere, and a notice that has arrived at a broker is not ahead of it any more, and else there once at most
pub record Notices (t : Tree) (s : Network) : Type 0 where
  pub unposted_copies : (k : ℕ) → has s.posted k ≡ false → (x n : ℕ) → copies k (s.channel x n) ≡ 0
  pub unposted_arrived : (k : ℕ) → has s.posted k ≡ false → (b : ℕ) → has (s.arrived b) k ≡ false
  pub unposted_delivered : (k : ℕ) → has s.posted k ≡ false → (n : ℕ) → times k n s.deliveries ≡ 0
  pub one_ahead : (k c : ℕ) → c ≤ length t → load t s k c ≤ 1

-- how many subscribers of the list have the number
unfoldable pub holders : ℕ → List Subscriber → ℕ
holders n [] = 0
holders n (r ∷ rs) = one (r.number == n) + holders n rs

-- a subscriber's number stands at one broker at most, once
unfoldable pub Owners : Tree → (ℕ → List Subscriber) → Type 0
Owners t subs = (n : ℕ) → total (λ b. holders n (subs b)) (suc (length t)) ≤ 1

-- all that holds however many subscribers there are
pub record Right (t : Tree) (s : Network) : Type 0 where
  pub tables : Tables t s
  pub notices : Notices t s
  pub owners : Owners t s.subscribers

-- a table has at most so many filters
abbrev pub short : ℕ → List Filter → Bool
short k fs = nat_le (length fs) k

-- the most that b can learn from n: R + 1 filters for each broker behind n
abbrev pub bound : Tree → (R b n : ℕ) → ℕ
bound t R b n = suc R * brokers_behind t b n

-- what was learned stays within that, now and after each message under way
unfoldable pub Fits : Tree → ℕ → Network → Type 0
Fits t R s = (b n : ℕ) → edge t b n ≡ true → lasts (short (bound t R b n)) (s.channel n b) (s.learned b n) ≡ true

-- at every broker at most R subscribers
unfoldable pub Few : Tree → ℕ → Network → Type 0
Few t R s = (b : ℕ) → b ≤ length t → length (s.subscribers b) ≤ R

-- all that holds of every network that commands lead to, with at most R subscribers a broker
pub record Invariant (t : Tree) (R : ℕ) (s : Network) : Type 0 where
  pub right : Right t s
  pub fits : Fits t R s
  pub few : Few t R s
  -- no notice has arrived twice at a broker
  pub once_arrived : (b : ℕ) → distinct (s.arrived b) ≡ true
