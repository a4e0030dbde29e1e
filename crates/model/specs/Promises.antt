-- The promises of the network, over every list of commands from the empty network of any tree.
use Rattle.std.specs.Prelude.{◌≡◌, ℕ, suc, ◌*◌, ◌<◌, ◌≤◌, Bool, true, false, cond, not, ◌&&◌, List, [], ◌∷◌, ◌++◌, length, Decides, ◌==◌, nat_le}
use Rattle.filter.specs.Filter.{Filter, Notice, matches, covers}
use Rattle.cover.specs.Maximal.{among, ordered, maximal, any_matches}
use Rattle.model.specs.Tree.{Tree, hangs, has}
use Rattle.model.specs.Model.{Message, notice, Delivery, Network, beside, filters_of, known, batch, announcement, tell, passed_on, arrive, Command, join, post, carry, allowed, step, end, end_if, empty, Quiet}
use Rattle.model.specs.Promise.{lasts, KnownOnWay, KnownToAll, CalledFor, wants, accepted, in_turn, subscribed, stays, times, notice_of, copies, behind, brokers_behind, Throughout, is_quiet, is_known}

-- the network after these commands
abbrev pub reached : Tree → List Command → Network
reached t ds = end t empty ds

-- THE SECOND PROMISE. No subscriber gets what it does not wish for, or gets anything twice; nothing needless is announced; and when nothing is under way,
-- what is known is exactly what is wished for
pub record SecondPromise (t : Tree) (ds : List Command) : Type 0 where
  -- whoever is delivered a notice by a command is subscribed at that moment with a filter that it matches
  pub wished_for :
      (d : Command) → (hs : List Delivery) × ((step t (reached t ds) d).deliveries ≡ (reached t ds).deliveries ++ hs)
      × ((k n : ℕ) → 0 < times k n hs →
      (b : ℕ) × (f : Filter) × (b ≤ length t) × (subscribed n f ((reached t ds).subscribers b) ≡ true) × (matches f (notice_of t k (ds ++ d ∷ [])) ≡ true))
  -- from its join on, as long as it stays, a subscriber is delivered a notice once at most, however often its number was used before
  pub once_from_join :
      (es : List Command) (c n k : ℕ) (f : Filter) → allowed t (reached t ds) (join c n f) ≡ true → stays c n es ≡ true →
      times k n (end t (reached t ds) (join c n f ∷ es)).deliveries ≤ suc (times k n (reached t ds).deliveries)
  -- and so from any moment of a stay on
  pub once_a_stay :
      (es : List Command) (c n k : ℕ) → c ≤ length t → known n ((reached t ds).subscribers c) ≡ true → stays c n es ≡ true →
      times k n (end t (reached t ds) es).deliveries ≤ suc (times k n (reached t ds).deliveries)
  -- of the filters announced to a neighbour none covers another
  pub antichain :
      (b n : ℕ) → b ≤ length t → has (beside t (reached t ds) b) n ≡ true → (f g : Filter) → among f ((reached t ds).announced b n) ≡ true →
      among g ((reached t ds).announced b n) ≡ true → covers f g ≡ true → f ≡ g
  -- when nothing is under way, what was learned from a neighbour is the maximal filters of all subscribers behind it
  pub quiet_tables :
      Quiet t (reached t ds) → (b n : ℕ) → b ≤ length t → has (beside t (reached t ds) b) n ≡ true →
      (reached t ds).learned b n ≡ maximal (behind t (reached t ds).subscribers b n)

abbrev pub Second : Type 0
Second = (t : Tree) → hangs t ≡ true → (ds : List Command) → SecondPromise t ds

-- THE THIRD PROMISE. A notice posted while the filter of a subscriber is known to all has been delivered to that subscriber exactly once when all is quiet, if it
-- has not left and the filter matches the notice, and never if the filter does not; and known to all stays so until it leaves
pub record ThirdPromise (t : Tree) (ds : List Command) : Type 0 where
  pub exactly_once :
      (es : List Command) (b k c n : ℕ) (e : Notice) (f : Filter) → b ≤ length t → c ≤ length t → has (reached t ds).posted k ≡ false →
      subscribed n f ((reached t ds).subscribers c) ≡ true → KnownToAll t (reached t ds) c f → stays c n es ≡ true →
      Quiet t (end t (reached t ds) (post b k e ∷ es)) → times k n (end t (reached t ds) (post b k e ∷ es)).deliveries ≡ cond (matches f e) 1 0
  -- known or not, quiet or not
  pub never :
      (es : List Command) (b k c n : ℕ) (e : Notice) (f : Filter) → b ≤ length t → c ≤ length t → has (reached t ds).posted k ≡ false →
      subscribed n f ((reached t ds).subscribers c) ≡ true → stays c n es ≡ true → matches f e ≡ false →
      times k n (end t (reached t ds) (post b k e ∷ es)).deliveries ≡ 0
  pub stays_known :
      (es : List Command) (c n : ℕ) (f : Filter) → c ≤ length t → subscribed n f ((reached t ds).subscribers c) ≡ true → KnownToAll t (reached t ds) c f →
      stays c n es ≡ true → KnownToAll t (end t (reached t ds) es) c f

abbrev pub Third : Type 0
Third = (t : Tree) → hangs t ≡ true → (ds : List Command) → ThirdPromise t ds

-- when all is quiet every subscriber's filter is known to all
abbrev pub QuietKnown : Type 0
QuietKnown =
    (t : Tree) → hangs t ≡ true → (ds : List Command) → Quiet t (reached t ds) → (c n : ℕ) (f : Filter) → c ≤ length t →
    subscribed n f ((reached t ds).subscribers c) ≡ true → covers f f ≡ true → KnownToAll t (reached t ds) c f

-- the quiet tables are the same for the same subscribers at the same brokers, however they came about
abbrev pub SameTables : Type 0
SameTables =
    (t : Tree) → hangs t ≡ true → (ds es : List Command) → Quiet t (reached t ds) → Quiet t (reached t es) →
    ((c : ℕ) → c ≤ length t → ordered (filters_of ((reached t ds).subscribers c)) ≡ ordered (filters_of ((reached t es).subscribers c))) → (b n : ℕ) →
    b ≤ length t → has (beside t (reached t ds) b) n ≡ true → (reached t ds).learned b n ≡ (reached t es).learned b n

-- A NOTICE GOES ONLY WHERE IT IS WISHED FOR
pub record GoesWhereWished (t : Tree) (ds : List Command) : Type 0 where
  -- a posted notice goes on to a neighbour just if it matches a filter learned from there
  pub posted :
      (b k : ℕ) (e : Notice) → b ≤ length t → has (reached t ds).posted k ≡ false → (n : ℕ) → has (beside t (reached t ds) b) n ≡ true →
      (step t (reached t ds) (post b k e)).channel b n
      ≡ (reached t ds).channel b n ++ cond (any_matches ((reached t ds).learned b n) e) (notice k e ∷ []) []
  -- a notice that arrives goes on to a neighbour just if it did not come from there and matches a filter learned from there
  pub carried :
      (a b k : ℕ) (e : Notice) (ms : List Message) → a ≤ length t → has (beside t (reached t ds) a) b ≡ true → (reached t ds).channel a b ≡ notice k e ∷ ms →
      (n : ℕ) → has (beside t (reached t ds) b) n ≡ true →
      (step t (reached t ds) (carry a b)).channel b n
      ≡ (reached t ds).channel b n ++ cond (not (n == a) && any_matches ((reached t ds).learned b n) e) (notice k e ∷ []) []
  -- no command puts a copy on a channel but by these
  pub only :
      (d : Command) (k x n : ℕ) → copies k ((reached t ds).channel x n) < copies k ((step t (reached t ds) d).channel x n) →
      any_matches ((reached t ds).learned x n) (notice_of t k (ds ++ d ∷ [])) ≡ true
  -- when all is quiet, it matches a learned filter just if it matches the filter of a subscriber behind
  pub quiet :
      Quiet t (reached t ds) → (b n : ℕ) (e : Notice) → b ≤ length t → has (beside t (reached t ds) b) n ≡ true →
      any_matches ((reached t ds).learned b n) e ≡ any_matches (behind t (reached t ds).subscribers b n) e

abbrev pub Wished : Type 0
Wished = (t : Tree) → hangs t ≡ true → (ds : List Command) → GoesWhereWished t ds

-- THE HEADLINE, WITHOUT TABLES: in a network that was quiet, a subscriber there who stays is delivered a notice posted anywhere once by the next quiet moment, if
-- its filter matches it, and else not
abbrev pub Headline : Type 0
Headline =
    (t : Tree) → hangs t ≡ true → (ds es fs : List Command) (b k c n : ℕ) (e : Notice) (f : Filter) → b ≤ length t → c ≤ length t → Quiet t (reached t ds) →
    subscribed n f ((reached t ds).subscribers c) ≡ true → stays c n es ≡ true → has (end t (reached t ds) es).posted k ≡ false → stays c n fs ≡ true →
    Quiet t (end t (end t (reached t ds) es) (post b k e ∷ fs)) →
    times k n (end t (end t (reached t ds) es) (post b k e ∷ fs)).deliveries ≡ cond (matches f e) 1 0

-- TABLES FIT: with at most R subscribers a broker, at every moment and after each message under way too, what was learned is at most R + 1 filters for each
-- broker behind, and what is announced at least one fewer
pub record TablesFit (t : Tree) (R : ℕ) (s : Network) : Type 0 where
  pub learned :
      (b n : ℕ) → b ≤ length t → has (beside t s b) n ≡ true →
      lasts (λ fs. nat_le (length fs) (suc R * brokers_behind t b n)) (s.channel n b) (s.learned b n) ≡ true
  pub announced : (b n : ℕ) → b ≤ length t → has (beside t s b) n ≡ true → suc (length (s.announced b n)) ≤ suc R * brokers_behind t n b

-- at every moment each broker has at most R subscribers
abbrev pub AtMost : ℕ → Tree → List Command → Type 0
AtMost R t ds = Throughout (λ u. (b : ℕ) → b ≤ length t → length (u.subscribers b) ≤ R) t empty ds

abbrev pub Fit : Type 0
Fit = (t : Tree) → hangs t ≡ true → (R : ℕ) (ds : List Command) → AtMost R t ds → TablesFit t R (reached t ds)

-- so 1,024 filters are enough for sixteen brokers of 64 subscribers
pub record RoomFor (k : ℕ) (t : Tree) (s : Network) : Type 0 where
  pub learned : (b n : ℕ) → b ≤ length t → has (beside t s b) n ≡ true → lasts (λ fs. nat_le (length fs) k) (s.channel n b) (s.learned b n) ≡ true
  pub announced : (b n : ℕ) → b ≤ length t → has (beside t s b) n ≡ true → length (s.announced b n) ≤ k

abbrev pub Enough : Type 0
Enough = (t : Tree) → hangs t ≡ true → length t ≤ 15 → (ds : List Command) → AtMost 64 t ds → RoomFor 1024 t (reached t ds)

-- the commands each carry a message that is under way
pub data Carrying (t : Tree) : Network → List Command → Type 0 where
  done : {s : Network} → Carrying t s []
  more :
      {s : Network} {a b : ℕ} {m : Message} {ms : List Message} {ds : List Command} → a ≤ length t → has (beside t s a) b ≡ true → s.channel a b ≡ m ∷ ms →
      Carrying t (step t s (carry a b)) ds → Carrying t s (carry a b ∷ ds)

-- IT COMES TO REST: messages can be carried so many times and no more, in whatever order; where none can be carried nothing is under way; and so it is when
-- all that can be carried has been
pub record ComesToRest (t : Tree) (ds : List Command) : Type 0 where
  pub most : ℕ
  pub bounded : (es : List Command) → Carrying t (reached t ds) es → length es ≤ most
  pub stuck : ((a b : ℕ) → a ≤ length t → has (beside t (reached t ds) a) b ≡ true → (reached t ds).channel a b ≡ []) → Quiet t (reached t ds)
  pub reaches : (es : List Command) × Carrying t (reached t ds) es × Quiet t (end t (reached t ds) es)

abbrev pub Rest : Type 0
Rest = (t : Tree) → hangs t ≡ true → (ds : List Command) → ComesToRest t ds

-- EXACTLY ONCE BY THE NOTICE: it is enough that the notice is called for on the way from where it is posted, and that the subscriber wants it at every moment
abbrev pub CalledOnce : Type 0
CalledOnce =
    (t : Tree) → hangs t ≡ true → (ds es : List Command) (b k c n : ℕ) (e : Notice) → b ≤ length t → c ≤ length t → has (reached t ds).posted k ≡ false →
    CalledFor t (reached t ds) c e b → Throughout (λ u. wants n e (u.subscribers c) ≡ true) t (reached t ds) (post b k e ∷ es) →
    Quiet t (end t (reached t ds) (post b k e ∷ es)) → times k n (end t (reached t ds) (post b k e ∷ es)).deliveries ≡ 1

-- known at a broker and at all from there to the subscriber's stays so; and known to all is known so from every broker
pub record WaysKnown (t : Tree) (ds : List Command) : Type 0 where
  pub stays_known :
      (es : List Command) (b c n : ℕ) (f : Filter) → b ≤ length t → c ≤ length t → subscribed n f ((reached t ds).subscribers c) ≡ true →
      KnownOnWay t (reached t ds) c f b → stays c n es ≡ true → KnownOnWay t (end t (reached t ds) es) c f b
  pub from_all : (c : ℕ) (f : Filter) → c ≤ length t → KnownToAll t (reached t ds) c f → (b : ℕ) → b ≤ length t → KnownOnWay t (reached t ds) c f b
  pub to_all : (c : ℕ) (f : Filter) → c ≤ length t → ((b : ℕ) → b ≤ length t → KnownOnWay t (reached t ds) c f b) → KnownToAll t (reached t ds) c f

abbrev pub KnownWays : Type 0
KnownWays = (t : Tree) → hangs t ≡ true → (ds : List Command) → WaysKnown t ds

-- telling goes through those beside a broker in their order, and so does a notice; no broker stands twice among them
pub record InOrder (t : Tree) (s : Network) (b : ℕ) : Type 0 where
  pub told :
      (x n : ℕ) → (tell t b s).channel x n ≡ in_turn (λ m ms. ms ++ batch (s.announced b m) (announcement t s b m)) b (beside t s b) s.channel x n
  pub announced : (x n : ℕ) → (tell t b s).announced x n ≡ in_turn (λ m fs. announcement t s b m) b (beside t s b) s.announced x n
  pub noticed :
      (m k : ℕ) (e : Notice) (x n : ℕ) →
      (arrive t b m k e s).channel x n ≡ in_turn (λ l ms. ms ++ passed_on m k e (s.learned b) l) b (beside t s b) s.channel x n

abbrev pub Order : Type 0
Order = (t : Tree) → hangs t ≡ true → (s : Network) (b : ℕ) → b ≤ length t → InOrder t s b

-- REFUSALS FOR ROOM: a network that refuses more commands is where the accepted ones alone lead to, and who stays through all of them stays through these. So
-- every promise holds of it
pub record Refuses (may : Network → Command → Bool) (t : Tree) (s : Network) (ds : List Command) : Type 0 where
  pub same : end_if may t s ds ≡ end t s (accepted may t s ds)
  pub staying : (c n : ℕ) → stays c n ds ≡ true → stays c n (accepted may t s ds) ≡ true

abbrev pub Refusals : Type 0
Refusals = (may : Network → Command → Bool) (t : Tree) (s : Network) (ds : List Command) → Refuses may t s ds

-- the tests for quiet and for known to all tell just that
pub record Tests (t : Tree) (s : Network) : Type 0 where
  pub quiet : Decides (is_quiet t s) (Quiet t s)
  pub known : (c : ℕ) (f : Filter) → Decides (is_known t s c f) (KnownToAll t s c f)

abbrev pub Tested : Type 0
Tested = (t : Tree) (s : Network) → Tests t s
