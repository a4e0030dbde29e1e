-- The network: brokers in a tree, what they have learned of each other's filters, what is under way between them, and what each command does.
use Rattle.std.specs.Prelude.{◌≡◌, ℕ, zero, suc, ◌≤◌, Bool, cond, not, ◌&&◌, ◌||◌, List, [], ◌∷◌, ◌++◌, length, ◌==◌, nat_le}
use Rattle.filter.specs.Filter.{Filter, Notice, matches}
use Rattle.cover.specs.Maximal.{put, without, maximal, any_matches, minus}
pub use Rattle.broker.specs.Subscribers.{Subscriber}
unfoldable pub use Rattle.broker.specs.Subscribers.{filters_of, known, filter_of, dropped}
use Rattle.model.specs.Tree.{Tree, neighbours, has}

-- what goes from broker to broker: a filter more, a filter less, a notice with its number
pub data Message : Type 0 where
  add cut : Filter → Message
  notice : ℕ → Notice → Message

-- a notice, by its number, was delivered to a subscriber
pub record Delivery : Type 0 where
  pub what : ℕ
  pub whom : ℕ

pub record Network : Type 0 where
  -- at each broker, in the order in which they came
  pub subscribers : ℕ → List Subscriber
  -- at the first broker, from the second beside it: filters in order, each once
  pub learned : ℕ → ℕ → List Filter
  -- by the first broker, last, to the second beside it
  pub announced : ℕ → ℕ → List Filter
  -- under way from the first broker to the second, the oldest first
  pub channel : ℕ → ℕ → List Message
  -- the numbers of the notices that were posted, the newest first
  pub posted : List ℕ
  -- at each broker, the numbers of the notices that have arrived there, the newest first
  pub arrived : ℕ → List ℕ
  -- the oldest first
  pub deliveries : List Delivery

-- the brokers beside b, in the order of telling
abbrev pub beside : Tree → Network → ℕ → List ℕ
beside t s b = neighbours t b

abbrev pub at1 : {A : Type 0} → (ℕ → A) → ℕ → A → ℕ → A
at1 f i a j = cond (j == i) a (f j)

abbrev pub at2 : {A : Type 0} → (ℕ → ℕ → A) → ℕ → ℕ → A → ℕ → ℕ → A
at2 f i j a k l = cond (k == i && l == j) a (f k l)

-- what the tables of these brokers hold, but for the one of n
unfoldable pub from_others : (ℕ → List Filter) → ℕ → List ℕ → List Filter
from_others table n [] = []
from_others table n (m ∷ ms) = cond (m == n) (from_others table n ms) (table m ++ from_others table n ms)

-- what a broker has to announce to n beside it: the maximal filters of its own subscribers and of what it has learned from the others beside it
unfoldable pub to_announce : List Subscriber → (ℕ → List Filter) → List ℕ → ℕ → List Filter
to_announce own table ns n = maximal (filters_of own ++ from_others table n ns)

abbrev pub announcement : Tree → Network → (b n : ℕ) → List Filter
announcement t s b n = to_announce (s.subscribers b) (s.learned b) (beside t s b) n

unfoldable pub adds : List Filter → List Message
adds [] = []
adds (f ∷ fs) = add f ∷ adds fs

unfoldable pub cuts : List Filter → List Message
cuts [] = []
cuts (f ∷ fs) = cut f ∷ cuts fs

-- from the old announcement to the new: first an add for each filter that is new, in order, then a cut for each that is no more, in order
unfoldable pub batch : (old new : List Filter) → List Message
batch old new = adds (minus new old) ++ cuts (minus old new)

-- broker b puts messages on its channels to these brokers, behind what is there. Each channel is for itself, so to go through the brokers one after the
-- other comes to the same
abbrev pub send : ℕ → List ℕ → (ℕ → List Message) → (ℕ → ℕ → List Message) → ℕ → ℕ → List Message
send b ns out channel x n = cond (x == b && has ns n) (channel x n ++ out n) (channel x n)

-- broker b tells those beside it what it has to announce to each
unfoldable pub tell : Tree → ℕ → Network → Network
tell t b s =
    record {
      subscribers = s.subscribers;
      learned = s.learned;
      announced = λ x n. cond (x == b && has (beside t s b) n) (announcement t s x n) (s.announced x n);
      channel = send b (beside t s b) (λ n. batch (s.announced b n) (announcement t s b n)) s.channel;
      posted = s.posted;
      arrived = s.arrived;
      deliveries = s.deliveries;
    }

-- to those of these subscribers whose filter matches, in their order
unfoldable pub delivered : ℕ → Notice → List Subscriber → List Delivery
delivered k e [] = []
delivered k e (r ∷ rs) = cond (matches r.filter e) (record { what = k; whom = r.number } ∷ delivered k e rs) (delivered k e rs)

-- what goes on to n of a notice that came from m: the notice, if n is not m and it matches a filter learned from n
unfoldable pub passed_on : ℕ → ℕ → Notice → (ℕ → List Filter) → ℕ → List Message
passed_on m k e table n = cond (not (n == m) && any_matches (table n) e) (notice k e ∷ []) []

-- a notice arrives at broker b from m beside it, or from b itself if it is posted there
unfoldable pub arrive : Tree → (b m k : ℕ) → Notice → Network → Network
arrive t b m k e s =
    record {
      subscribers = s.subscribers;
      learned = s.learned;
      announced = s.announced;
      channel = send b (beside t s b) (passed_on m k e (s.learned b)) s.channel;
      posted = s.posted;
      arrived = at1 s.arrived b (k ∷ s.arrived b);
      deliveries = s.deliveries ++ delivered k e (s.subscribers b);
    }

pub data Command : Type 0 where
  -- at a broker, a subscriber's number, its filter
  join : ℕ → ℕ → Filter → Command
  -- at a broker, a subscriber's number
  leave : ℕ → ℕ → Command
  -- at a broker, a notice's number, the notice
  post : ℕ → ℕ → Notice → Command
  -- the oldest message from the first broker to the second arrives
  carry : ℕ → ℕ → Command

-- a subscriber with this number is at a broker up to k
unfoldable pub known_up_to : ℕ → (ℕ → List Subscriber) → ℕ → Bool
known_up_to n subscribers zero = known n (subscribers zero)
known_up_to n subscribers (suc k) = known n (subscribers (suc k)) || known_up_to n subscribers k

abbrev pub with_subscribers : Network → ℕ → List Subscriber → Network
with_subscribers s b rs =
    record {
      subscribers = at1 s.subscribers b rs;
      learned = s.learned;
      announced = s.announced;
      channel = s.channel;
      posted = s.posted;
      arrived = s.arrived;
      deliveries = s.deliveries;
    }

abbrev pub with_posted : Network → ℕ → Network
with_posted s k =
    record {
      subscribers = s.subscribers;
      learned = s.learned;
      announced = s.announced;
      channel = s.channel;
      posted = k ∷ s.posted;
      arrived = s.arrived;
      deliveries = s.deliveries;
    }

-- broker b has learned these filters from a, and these messages are left under way from there
abbrev pub with_learned : Network → (a b : ℕ) → List Filter → List Message → Network
with_learned s a b fs ms =
    record {
      subscribers = s.subscribers;
      learned = at2 s.learned b a fs;
      announced = s.announced;
      channel = at2 s.channel a b ms;
      posted = s.posted;
      arrived = s.arrived;
      deliveries = s.deliveries;
    }

-- what a message makes of the table of the broker where it arrives: an add puts its filter among those learned, once; a cut takes it out
unfoldable pub after : Message → List Filter → List Filter
after (add f) fs = put f fs
after (cut f) fs = without f fs
after (notice k e) fs = fs

-- the message m from a has reached the tables of b, and the messages ms are left under way
abbrev pub taken : Network → (a b : ℕ) → Message → List Message → Network
taken s a b m ms = with_learned s a b (after m (s.learned b a)) ms

-- what b does then
unfoldable pub react : Tree → (a b : ℕ) → Message → Network → Network
react t a b (add f) s = tell t b s
react t a b (cut f) s = tell t b s
react t a b (notice k e) s = arrive t b a k e s

-- the oldest of these messages from a arrives at b
unfoldable pub receive : Tree → (a b : ℕ) → List Message → Network → Network
receive t a b [] s = s
receive t a b (m ∷ ms) s = react t a b m (taken s a b m ms)

-- whether a command can be done: the broker is there, and the number is unused, is at that broker, or was not posted; a message is carried between
-- brokers that are beside each other
unfoldable pub allowed : Tree → Network → Command → Bool
allowed t s (join b n f) = nat_le b (length t) && not (known_up_to n s.subscribers (length t))
allowed t s (leave b n) = nat_le b (length t) && known n (s.subscribers b)
allowed t s (post b k e) = nat_le b (length t) && not (has s.posted k)
allowed t s (carry a b) = nat_le a (length t) && has (beside t s a) b

-- what a command does that can be done
unfoldable pub effect : Tree → Network → Command → Network
effect t s (join b n f) = tell t b (with_subscribers s b (s.subscribers b ++ record { number = n; filter = f } ∷ []))
effect t s (leave b n) = tell t b (with_subscribers s b (dropped n (s.subscribers b)))
effect t s (post b k e) = arrive t b b k e (with_posted s k)
effect t s (carry a b) = receive t a b (s.channel a b) s

-- a command that cannot be done changes nothing
unfoldable pub step : Tree → Network → Command → Network
step t s d = cond (allowed t s d) (effect t s d) s

-- a network in which some commands are refused that could be done here, as for want of room
unfoldable pub step_if : (Network → Command → Bool) → Tree → Network → Command → Network
step_if may t s d = cond (may s d) (step t s d) s

-- after all of these commands
unfoldable pub end : Tree → Network → List Command → Network
end t s [] = s
end t s (d ∷ ds) = end t (step t s d) ds

unfoldable pub end_if : (Network → Command → Bool) → Tree → Network → List Command → Network
end_if may t s [] = s
end_if may t s (d ∷ ds) = end_if may t (step_if may t s d) ds

abbrev pub empty : Network
empty =
    record {
      subscribers = λ b. [];
      learned = λ b n. [];
      announced = λ b n. [];
      channel = λ a b. [];
      posted = [];
      arrived = λ b. [];
      deliveries = [];
    }

-- nothing is under way
unfoldable pub Quiet : Tree → Network → Type 0
Quiet t s = (a b : ℕ) → a ≤ length t → b ≤ length t → s.channel a b ≡ []
