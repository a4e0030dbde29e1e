-- The words of the promises: what messages under way make of a table, known to all, a stay, how often a notice was delivered, who is behind a broker.
use Rattle.std.specs.Prelude.{◌≡◌, ℕ, zero, suc, ◌+◌, ◌≤◌, Bool, true, false, cond, not, ◌&&◌, ◌||◌, List, [], ◌∷◌, ◌++◌, length, ◌==◌, ◌≢◌, nat_eq, nat_le}
use Rattle.filter.specs.Filter.{Filter, Notice, matches, same}
use Rattle.cover.specs.Maximal.{any_matches, any_covers}
use Rattle.model.specs.Tree.{Tree, hop}
use Rattle.model.specs.Model.{Subscriber, Message, add, cut, notice, after, Delivery, Network, filters_of, Command, join, leave, post, carry, step, step_if, at2}

-- what the messages make of a table, one after the other
unfoldable pub replay : List Message → List Filter → List Filter
replay [] fs = fs
replay (m ∷ ms) fs = replay ms (after m fs)

-- it holds of the table, and still does after each of the messages
unfoldable pub lasts : (List Filter → Bool) → List Message → List Filter → Bool
lasts P [] fs = P fs
lasts P (m ∷ ms) fs = P fs && lasts P ms (after m fs)

-- broker a is on the way from b to c, and is not c
pub data OnWay (t : Tree) (c : ℕ) : ℕ → ℕ → Type 0 where
  here : {b : ℕ} → (b ≢ c) → OnWay t c b b
  further : {b a : ℕ} → (b ≢ c) → OnWay t c (hop t c b) a → OnWay t c b a

-- at broker b it holds of what was learned from the next hop towards c, and still does after each message under way from there
abbrev pub HoldsAt : Tree → Network → (List Filter → Bool) → (c b : ℕ) → Type 0
HoldsAt t s P c b = lasts P (s.channel (hop t c b) b) (s.learned b (hop t c b)) ≡ true

abbrev pub covering : Filter → List Filter → Bool
covering f fs = any_covers fs f

abbrev pub matching : Notice → List Filter → Bool
matching e fs = any_matches fs e

-- the filter of a subscriber at c is known at b and at all brokers from there to c
unfoldable pub KnownOnWay : Tree → Network → (c : ℕ) → Filter → (b : ℕ) → Type 0
KnownOnWay t s c f b = (a : ℕ) → OnWay t c b a → HoldsAt t s (covering f) c a

-- the filter of a subscriber at c is known to all
unfoldable pub KnownToAll : Tree → Network → (c : ℕ) → Filter → Type 0
KnownToAll t s c f = (b : ℕ) → b ≤ length t → (b ≢ c) → HoldsAt t s (covering f) c b

-- the notice is called for on the way from b to c
unfoldable pub CalledFor : Tree → Network → (c : ℕ) → Notice → (b : ℕ) → Type 0
CalledFor t s c e b = (a : ℕ) → OnWay t c b a → HoldsAt t s (matching e) c a

-- the subscriber with this number and this filter is in the list
unfoldable pub subscribed : ℕ → Filter → List Subscriber → Bool
subscribed n f [] = false
subscribed n f (r ∷ rs) = (r.number == n && same r.filter f) || subscribed n f rs

-- the command is the leave of subscriber n at broker c
unfoldable pub is_leave : (c n : ℕ) → Command → Bool
is_leave c n (join b m f) = false
is_leave c n (leave b m) = b == c && m == n
is_leave c n (post b k e) = false
is_leave c n (carry a b) = false

-- none of the commands is
unfoldable pub stays : (c n : ℕ) → List Command → Bool
stays c n [] = true
stays c n (d ∷ ds) = not (is_leave c n d) && stays c n ds

-- how often the notice with the number k was delivered to subscriber n
unfoldable pub times : (k n : ℕ) → List Delivery → ℕ
times k n [] = 0
times k n (h ∷ hs) = cond (h.what == k && h.whom == n) (suc (times k n hs)) (times k n hs)

-- the notice that was posted with the number k, at a broker that is there
unfoldable pub notice_of : Tree → ℕ → List Command → Notice
notice_of t k [] = []
notice_of t k (join b n f ∷ ds) = notice_of t k ds
notice_of t k (leave b n ∷ ds) = notice_of t k ds
notice_of t k (post b j e ∷ ds) = cond (nat_le b (length t) && j == k) e (notice_of t k ds)
notice_of t k (carry a b ∷ ds) = notice_of t k ds

-- 1 if the message is a copy of notice k
unfoldable pub copy : ℕ → Message → ℕ
copy k (add f) = 0
copy k (cut f) = 0
copy k (notice j e) = cond (j == k) 1 0

-- how many copies of notice k are among the messages
unfoldable pub copies : ℕ → List Message → ℕ
copies k [] = 0
copies k (m ∷ ms) = copy k m + copies k ms

-- what the tables of the brokers below k hold that pass the test
unfoldable pub gathered : (ℕ → Bool) → (ℕ → List Filter) → ℕ → List Filter
gathered test table zero = []
gathered test table (suc c) = cond (test c) (table c ++ gathered test table c) (gathered test table c)

-- the filters of all subscribers behind n, seen from b: at the brokers towards which the next hop from b is n
unfoldable pub behind : Tree → (ℕ → List Subscriber) → (b n : ℕ) → List Filter
behind t subscribers b n = gathered (λ c. nat_eq (hop t c b) n) (λ c. filters_of (subscribers c)) (suc (length t))

-- f at all numbers below n, together
unfoldable pub total : (ℕ → ℕ) → ℕ → ℕ
total f zero = 0
total f (suc n) = total f n + f n

-- how many brokers are behind n, seen from b
unfoldable pub brokers_behind : Tree → (b n : ℕ) → ℕ
brokers_behind t b n = total (λ c. cond (hop t c b == n) 1 0) (suc (length t))

-- a subscriber with this number and a filter that the notice matches is in the list
unfoldable pub wants : ℕ → Notice → List Subscriber → Bool
wants n e [] = false
wants n e (r ∷ rs) = (r.number == n && matches r.filter e) || wants n e rs

-- at every moment from this network on, while these commands are done
unfoldable pub Throughout : (Network → Type 0) → Tree → Network → List Command → Type 0
Throughout Q t s [] = Q s
Throughout Q t s (d ∷ ds) = Q s × Throughout Q t (step t s d) ds

-- those of the commands that are not refused
unfoldable pub accepted : (Network → Command → Bool) → Tree → Network → List Command → List Command
accepted may t s [] = []
accepted may t s (d ∷ ds) = cond (may s d) (d ∷ accepted may t (step_if may t s d) ds) (accepted may t (step_if may t s d) ds)

-- a row of a table changed at these places, one after the other
unfoldable pub in_turn : {A : Type 0} → (ℕ → A → A) → ℕ → List ℕ → (ℕ → ℕ → A) → ℕ → ℕ → A
in_turn f b [] table = table
in_turn f b (n ∷ ns) table = in_turn f b ns (at2 table b n (f n (table b n)))

-- the test passes at all numbers below n
unfoldable pub all_below : (ℕ → Bool) → ℕ → Bool
all_below test zero = true
all_below test (suc n) = test n && all_below test n

unfoldable pub nothing : List Message → Bool
nothing [] = true
nothing (m ∷ ms) = false

-- nothing is under way, as a test
unfoldable pub is_quiet : Tree → Network → Bool
is_quiet t s = all_below (λ a. all_below (λ b. nothing (s.channel a b)) (suc (length t))) (suc (length t))

-- the filter of a subscriber at c is known to all, as a test
unfoldable pub is_known : Tree → Network → (c : ℕ) → Filter → Bool
is_known t s c f =
    all_below (λ b. (b == c) || lasts (covering f) (s.channel (hop t c b) b) (s.learned b (hop t c b))) (suc (length t))
