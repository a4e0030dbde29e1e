-- Scripts as bytes: which command stands at a place and where the rest begins, or at which byte what was missing; and the bytes of a command.
use Rattle.std.specs.Prelude.{ℕ, zero, suc, ◌+◌, ◌-◌, ◌*◌, ◌/◌, cond, List, [], ◌∷◌, length, take, drop, Some, None, Ok, Err, Option, Result, ◌==◌, nat_le, nat_lt, slice_index}
use Rattle.filter.specs.Filter.{padded}
use Rattle.layout.specs.Opening.{opening_refusal}
use Rattle.layout.specs.declared.refusal.Refusal.{Refusal}
use Rattle.layout.specs.declared.command.Command.{Command}
use Rattle.layout.specs.declared.command.Command.TheVariants.{Join, Leave, Post, Carry}
use Rattle.script.specs.declared.fault.Expected.{Expected}
use Rattle.script.specs.declared.fault.Expected.TheVariants.{Ranges, Brokers, HungOn, Broker, OtherBroker, SubscriberNumber, NoticeNumber, Bound, Value}
use Rattle.script.specs.declared.fault.Fault.{Fault}
use Rattle.script.specs.declared.fault.Fault.TheVariants.{Cut, Unknown}
use Rattle.script.specs.declared.fault.Unopened.{Unopened}
use Rattle.script.specs.declared.fault.Unopened.TheVariants.{Faulty, Refused}
use Rattle.script.specs.declared.kind.Kind.{Kind}
use Rattle.script.specs.declared.kind.Kind.TheVariants as kinds

-- the kind of a command by its first byte
abbrev pub kind_of : ℕ → Option Kind
kind_of b = cond (b == 0) (Some kinds.Join) (cond (b == 1) (Some kinds.Leave) (cond (b == 2) (Some kinds.Post) (cond (b == 3) (Some kinds.Carry) None)))

-- and the first byte of a command of a kind
abbrev pub first_byte : Kind → ℕ
first_byte kinds.Join = 0
first_byte kinds.Leave = 1
first_byte kinds.Post = 2
first_byte kinds.Carry = 3

-- how many bytes a command takes: its first, then a byte for each broker and four for any other number
abbrev pub size : ℕ → Kind → ℕ
size ranges kinds.Join = 6 + 8 * ranges
size ranges kinds.Leave = 6
size ranges kinds.Post = 6 + 4 * ranges
size ranges kinds.Carry = 3

-- what stands in a command so many bytes on from its first
abbrev pub part_at : Kind → ℕ → Expected
part_at kinds.Join i = cond (nat_le i 1) Broker (cond (nat_le i 5) SubscriberNumber (Bound ((i - 6) / 4)))
part_at kinds.Leave i = cond (nat_le i 1) Broker SubscriberNumber
part_at kinds.Post i = cond (nat_le i 1) Broker (cond (nat_le i 5) NoticeNumber (Value ((i - 6) / 4)))
part_at kinds.Carry i = cond (nat_le i 1) Broker OtherBroker

-- the number in the four bytes from a place on, low byte first
abbrev pub number_at : List ℕ → ℕ → ℕ
number_at xs i = slice_index xs i + 256 * (slice_index xs (i + 1) + 256 * (slice_index xs (i + 2) + 256 * slice_index xs (i + 3)))

-- so many numbers, one after the other
abbrev pub numbers_at : ℕ → List ℕ → ℕ → List ℕ
numbers_at zero xs i = []
numbers_at (suc n) xs i = number_at xs i ∷ numbers_at n xs (i + 4)

-- the command of a kind whose bytes begin at a place
abbrev pub command_at : ℕ → Kind → List ℕ → ℕ → Command
command_at ranges kinds.Join xs at = Join (slice_index xs (at + 1)) (number_at xs (at + 2)) (record { bounds = padded 16 (numbers_at (2 * ranges) xs (at + 6)) })
command_at ranges kinds.Leave xs at = Leave (slice_index xs (at + 1)) (number_at xs (at + 2))
command_at ranges kinds.Post xs at = Post (slice_index xs (at + 1)) (number_at xs (at + 2)) (record { numbers = padded 8 (numbers_at ranges xs (at + 6)) })
command_at ranges kinds.Carry xs at = Carry (slice_index xs (at + 1)) (slice_index xs (at + 2))

-- what is read at a place of a script: nothing where it ends there, a command and where the rest begins, or a fault
pub data Reading : Type 0 where
  ended : Reading
  found : Command → ℕ → Reading
  faulty : Fault → Reading

abbrev pub reading_kind : ℕ → List ℕ → ℕ → Option Kind → Reading
reading_kind ranges xs at None = faulty (Unknown at (slice_index xs at))
reading_kind ranges xs at (Some k) =
    cond (nat_le (at + size ranges k) (length xs)) (found (command_at ranges k xs at) (at + size ranges k)) (faulty (Cut (length xs) (part_at k (length xs - at))))

abbrev pub reading : ℕ → List ℕ → ℕ → Reading
reading ranges xs at = cond (nat_lt at (length xs)) (reading_kind ranges xs at (kind_of (slice_index xs at))) ended

-- the answer of a reader, and the place that it has come to: a fault leaves it where it was
abbrev pub answer : Reading → Result (Option Command) Fault
answer ended = Ok None
answer (found c rest) = Ok (Some c)
answer (faulty f) = Err f

abbrev pub place_after : ℕ → Reading → ℕ
place_after at ended = at
place_after at (found c rest) = rest
place_after at (faulty f) = at

-- an opening: the ranges, the count of brokers, and for each broker but the first the one that it hangs on, a byte each
abbrev pub hung_on_at : List ℕ → ℕ → List ℕ
hung_on_at xs at = take (slice_index xs (at + 1) - 1) (drop (at + 2) xs)

abbrev pub opening_fault : List ℕ → ℕ → Option Fault
opening_fault xs at =
    cond (nat_le (length xs) at) (Some (Cut (length xs) Ranges))
    (cond (nat_le (length xs) (at + 1)) (Some (Cut (length xs) Brokers))
    (cond (nat_lt (length xs) (at + 2 + (slice_index xs (at + 1) - 1))) (Some (Cut (length xs) (HungOn (length xs - at - 1)))) None))

abbrev pub refusal_at : List ℕ → ℕ → ℕ → ℕ → Option Refusal
refusal_at xs at subscribers messages = opening_refusal (slice_index xs at) (slice_index xs (at + 1)) (hung_on_at xs at) subscribers messages

-- why there is no opening, a fault of the script before a refusal; nothing where there is one
abbrev pub why_unopened : Option Fault → Option Refusal → Option Unopened
why_unopened (Some f) r = Some (Faulty f)
why_unopened None (Some r) = Some (Refused r)
why_unopened None None = None

abbrev pub unopened : List ℕ → ℕ → ℕ → ℕ → Option Unopened
unopened xs at subscribers messages = why_unopened (opening_fault xs at) (refusal_at xs at subscribers messages)
