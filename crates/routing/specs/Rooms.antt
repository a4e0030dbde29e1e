-- When there is no room for what a broker would send or deliver.
use Rattle.std.specs.Prelude.{ℕ, ◌+◌, Bool, cond, not, List, [], ◌∷◌, length, Some, None, Ok, Err, Option, Result, nat_le}
use Rattle.filter.specs.Filter.{Notice}
use Rattle.model.specs.Tree.{Tree, neighbours}
use Rattle.model.specs.Model.{Message, Network, batch, announcement, passed_on, delivered}
use Rattle.layout.specs.Parts.{tree}
use Rattle.layout.specs.declared.opening.Opening.{Opening}
use Rattle.layout.specs.declared.refusal.Refusal.{Refusal}
use Rattle.layout.specs.declared.refusal.Refusal.TheVariants.{ChannelFull, TooManyDeliveries}

-- the first refusal that applies, of a list of rules each of which may apply
abbrev pub first : List (Option Refusal) → Option Refusal
first [] = None
first (None ∷ rules) = first rules
first (Some r ∷ rules) = Some r

-- this value, unless a refusal applies
abbrev pub ok_unless : {A : Type 0} → Option Refusal → A → Result A Refusal
ok_unless None a = Ok a
ok_unless (Some r) a = Err r

abbrev pub when : Bool → Refusal → Option Refusal
when applies r = cond applies (Some r) None

-- a channel has no room for all that would be sent on it: the first such in the order of telling
unfoldable pub full : (room : ℕ) → (channel out : ℕ → List Message) → List ℕ → Option Refusal
full room channel out [] = None
full room channel out (n ∷ ns) = cond (nat_le (length (channel n) + length (out n)) room) (full room channel out ns) (Some (ChannelFull n))

-- what broker b would send to each beside it if its subscribers and tables were those of s, and whether there is room for it
abbrev pub tidings : Tree → Network → ℕ → ℕ → List Message
tidings t s b n = batch (s.announced b n) (announcement t s b n)

abbrev pub no_room_to_tell : Opening → Network → ℕ → Option Refusal
no_room_to_tell o s b = full o.messages (s.channel b) (tidings (tree o) s b) (neighbours (tree o) b)

-- whether there is room for what a notice that arrives at b from m brings: on the channels, and among the deliveries
abbrev pub no_room_to_pass : Opening → Network → (b m k : ℕ) → Notice → Option Refusal
no_room_to_pass o s b m k e = full o.messages (s.channel b) (passed_on m k e (s.learned b)) (neighbours (tree o) b)

abbrev pub no_room_to_deliver : Network → (b k : ℕ) → Notice → Option Refusal
no_room_to_deliver s b k e = when (not (nat_le (length s.deliveries + length (delivered k e (s.subscribers b))) 65536)) (TooManyDeliveries 65536)
