-- Four brokers, worked out: 1 hangs on 0, 2 and 3 on 1. Subscriber 20 is at 2 with 0-9, subscriber 30 at 3 with 2-5.
use Rattle.std.specs.Prelude.{◌≡◌, true, false, List, [], ◌∷◌, ◌++◌}
use Rattle.filter.specs.Filter.{Filter, Notice, covers}
use Rattle.cover.specs.Maximal.{any_covers}
use Rattle.model.specs.Tree.{Tree, hangs, hop, has}
use Rattle.model.specs.Model.{Message, add, cut, notice, Delivery, Network, Command, join, leave, post, carry, end, empty, Quiet}
use Rattle.model.specs.Promise.{KnownToAll, CalledFor, wants, Throughout, subscribed, stays, times}
use Rattle.model.specs.Promises.{reached, AtMost}

abbrev pub four : Tree
four = 1 ∷ 1 ∷ 0 ∷ []

abbrev pub wide : Filter
wide = 0 ∷ 9 ∷ []

abbrev pub narrow : Filter
narrow = 2 ∷ 5 ∷ []

-- what is under way on the channels 0>1, 1>0, 1>2, 1>3, 2>1, 3>1: there are no others
abbrev pub under_way : Network → List (List Message)
under_way s = s.channel 0 1 ∷ s.channel 1 0 ∷ s.channel 1 2 ∷ s.channel 1 3 ∷ s.channel 2 1 ∷ s.channel 3 1 ∷ []

-- a row of the table: commands, and what is so after them
pub record Row : Type 0 where
  pub commands : List Command
  pub messages : List (List Message)
  -- broker 0 has learned from 1
  pub learned : List Filter
  pub deliveries : List Delivery

-- each row's commands, done after those of the rows before it, lead to what it says
unfoldable pub Follow : Tree → Network → List Row → Type 0
Follow t s [] = Unit {0}
Follow t s (r ∷ rs) =
    (under_way (end t s r.commands) ≡ r.messages) × ((end t s r.commands).learned 0 1 ≡ r.learned)
    × ((end t s r.commands).deliveries ≡ r.deliveries) × Follow t (end t s r.commands) rs

abbrev pub first : Notice
first = 4 ∷ []

abbrev pub second : Notice
second = 7 ∷ []

abbrev pub row : List Command → List (List Message) → List Filter → List Delivery → Row
row ds ms fs hs = record { commands = ds; messages = ms; learned = fs; deliveries = hs }

-- notice 1 was delivered to subscriber 30
abbrev pub to_30 : List Delivery
to_30 = record { what = 1; whom = 30 } ∷ []

-- commands; under way on 0>1, 1>0, 1>2, 1>3, 2>1, 3>1; what 0 has learned from 1; deliveries
abbrev pub table : List Row
table =
    row (join 2 20 wide ∷ []) ([] ∷ [] ∷ [] ∷ [] ∷ (add wide ∷ []) ∷ [] ∷ []) [] []
    ∷ row (carry 2 1 ∷ []) ([] ∷ (add wide ∷ []) ∷ [] ∷ (add wide ∷ []) ∷ [] ∷ [] ∷ []) [] []
    ∷ row (carry 1 0 ∷ carry 1 3 ∷ []) ([] ∷ [] ∷ [] ∷ [] ∷ [] ∷ [] ∷ []) (wide ∷ []) []
    ∷ row (join 3 30 narrow ∷ carry 3 1 ∷ []) ([] ∷ [] ∷ (add narrow ∷ []) ∷ [] ∷ [] ∷ [] ∷ []) (wide ∷ []) []
    ∷ row (carry 1 2 ∷ []) ([] ∷ [] ∷ [] ∷ [] ∷ [] ∷ [] ∷ []) (wide ∷ []) []
    ∷ row (post 0 1 first ∷ []) ((notice 1 first ∷ []) ∷ [] ∷ [] ∷ [] ∷ [] ∷ [] ∷ []) (wide ∷ []) []
    ∷ row (leave 2 20 ∷ []) ((notice 1 first ∷ []) ∷ [] ∷ [] ∷ [] ∷ (cut wide ∷ []) ∷ [] ∷ []) (wide ∷ []) []
    ∷ row (carry 2 1 ∷ []) ((notice 1 first ∷ []) ∷ (add narrow ∷ cut wide ∷ []) ∷ [] ∷ (cut wide ∷ []) ∷ [] ∷ [] ∷ []) (wide ∷ []) []
    ∷ row (carry 0 1 ∷ []) ([] ∷ (add narrow ∷ cut wide ∷ []) ∷ [] ∷ (cut wide ∷ notice 1 first ∷ []) ∷ [] ∷ [] ∷ []) (wide ∷ []) []
    ∷ row (carry 1 3 ∷ carry 1 0 ∷ carry 1 3 ∷ []) ([] ∷ (cut wide ∷ []) ∷ [] ∷ [] ∷ [] ∷ [] ∷ []) (wide ∷ narrow ∷ []) to_30
    ∷ row (carry 1 0 ∷ []) ([] ∷ [] ∷ [] ∷ [] ∷ [] ∷ [] ∷ []) (narrow ∷ []) to_30
    ∷ row (post 0 2 second ∷ []) ([] ∷ [] ∷ [] ∷ [] ∷ [] ∷ [] ∷ []) (narrow ∷ []) to_30
    ∷ []

abbrev pub Worked : Type 0
Worked = Follow four empty table

-- the commands of the table before notice 1 is posted, and after
abbrev pub before_post : List Command
before_post = join 2 20 wide ∷ carry 2 1 ∷ carry 1 0 ∷ carry 1 3 ∷ join 3 30 narrow ∷ carry 3 1 ∷ carry 1 2 ∷ []

abbrev pub after_post : List Command
after_post = leave 2 20 ∷ carry 2 1 ∷ carry 0 1 ∷ carry 1 3 ∷ carry 1 0 ∷ carry 1 3 ∷ carry 1 0 ∷ []

-- what the promises suppose is met: here, by the worked example
pub record Met : Type 0 where
  pub tree : hangs four ≡ true
  pub few : AtMost 64 four (before_post ++ post 0 1 first ∷ after_post)
  pub quiet_before : Quiet four (reached four before_post)
  pub there : subscribed 30 narrow ((reached four before_post).subscribers 3) ≡ true
  pub self : covers narrow narrow ≡ true
  pub known : KnownToAll four (reached four before_post) 3 narrow
  pub unused : has (reached four before_post).posted 1 ≡ false
  pub staying : stays 3 30 after_post ≡ true
  pub called : CalledFor four (reached four before_post) 3 first 0
  pub wanting : Throughout (λ u. wants 30 first (u.subscribers 3) ≡ true) four (reached four before_post) (post 0 1 first ∷ after_post)
  pub quiet_after : Quiet four (end four (reached four before_post) (post 0 1 first ∷ after_post))
  pub delivered : times 1 30 (end four (reached four before_post) (post 0 1 first ∷ after_post)).deliveries ≡ 1

-- A COVERING FILTER AMONG THOSE LEARNED IS NOT ENOUGH. Three brokers in a row: 0-9 at broker 2 leaves and 2-5 joins there. Everywhere 0-9 is still learned, and
-- covers 2-5; but its cut reaches broker 1 before the notice does, and the notice stops there
abbrev pub three : Tree
three = 1 ∷ 0 ∷ []

abbrev pub stale : List Command
stale = join 2 20 wide ∷ carry 2 1 ∷ carry 1 0 ∷ leave 2 20 ∷ join 2 30 narrow ∷ []

abbrev pub overtaken : List Command
overtaken = carry 2 1 ∷ carry 0 1 ∷ carry 2 1 ∷ carry 1 0 ∷ carry 1 0 ∷ []

pub record NotEnough : Type 0 where
  pub there : subscribed 30 narrow ((reached three stale).subscribers 2) ≡ true
  pub learned_at_0 : any_covers ((reached three stale).learned 0 (hop three 2 0)) narrow ≡ true
  pub learned_at_1 : any_covers ((reached three stale).learned 1 (hop three 2 1)) narrow ≡ true
  pub staying : stays 2 30 overtaken ≡ true
  pub quiet : Quiet three (end three (reached three stale) (post 0 1 first ∷ overtaken))
  pub lost : times 1 30 (end three (reached three stale) (post 0 1 first ∷ overtaken)).deliveries ≡ 0
