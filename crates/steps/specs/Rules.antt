-- The rules by which a command is refused, in their order, and what a command is to the model.
use Rattle.std.specs.Prelude.{ℕ, suc, ◌-◌, ◌*◌, ◌^◌, cond, not, List, [], ◌∷◌, ◌++◌, length, take, Some, None, Option, Result, nat_lt}
use Rattle.filter.specs.Filter.{Filter}
use Rattle.model.specs.Tree.{neighbours, has}
use Rattle.model.specs.Model.{Subscriber, Message, add, cut, notice, Network, known, dropped, known_up_to, with_subscribers, taken, step, join, leave, post, carry}
use Rattle.model.specs.Model as model
use Rattle.layout.specs.Parts.{tree}
use Rattle.routing.specs.Rooms.{first, ok_unless, when, no_room_to_tell, no_room_to_pass, no_room_to_deliver}
use Rattle.layout.specs.declared.opening.Opening.{Opening}
use Rattle.layout.specs.declared.command.Command.{Command}
use Rattle.layout.specs.declared.command.Command.TheVariants.{Join, Leave, Post, Carry}
use Rattle.layout.specs.declared.refusal.Refusal.{Refusal}
use Rattle.layout.specs.declared.refusal.Refusal.TheVariants.{NoSuchBroker, NotBeside, NumberUsed, NotSubscribed, BrokerFull, NoticeUsed, NumberTooLarge, TooManyNotices}

-- the command as the model takes it: of a filter the ranges that are in use, and of a notice its numbers
abbrev pub command_of : Opening → Command → model.Command
command_of o (Join b n f) = join b n (take (2 * o.ranges) f.bounds)
command_of o (Leave b n) = leave b n
command_of o (Post b k e) = post b k (take o.ranges e.numbers)
command_of o (Carry a b) = carry a b

-- a number is not below 2^32: the first such, by its place in the command, of those from this place on
unfoldable pub too_large : ℕ → List ℕ → Option Refusal
too_large place [] = None
too_large place (x ∷ xs) = cond (nat_lt x (2 ^ 32)) (too_large (suc place) xs) (Some (NumberTooLarge place))

-- the subscribers of b after a join
abbrev pub joined : Network → (b n : ℕ) → Filter → List Subscriber
joined s b n f = s.subscribers b ++ record { number = n; filter = f } ∷ []

-- why the oldest of these messages from a cannot arrive at b
unfoldable pub receiving : Opening → Network → (a b : ℕ) → List Message → Option Refusal
receiving o s a b [] = None
receiving o s a b (add f ∷ ms) = no_room_to_tell o (taken s a b (add f) ms) b
receiving o s a b (cut f ∷ ms) = no_room_to_tell o (taken s a b (cut f) ms) b
receiving o s a b (notice k e ∷ ms) = first (no_room_to_pass o s b a k e ∷ no_room_to_deliver s b k e ∷ [])

-- THE RULES: why a command is refused, if it is. They are asked in this order, and the first that applies is the answer
unfoldable pub refusal_of : Opening → Network → Command → Option Refusal
refusal_of o s (Join b n f) =
    first
    (too_large 1 (n ∷ take (2 * o.ranges) f.bounds)
    ∷ when (not (nat_lt b o.brokers)) (NoSuchBroker b)
    ∷ when (known_up_to n s.subscribers (o.brokers - 1)) (NumberUsed n)
    ∷ when (not (nat_lt (length (s.subscribers b)) o.subscribers)) (BrokerFull o.subscribers)
    ∷ no_room_to_tell o (with_subscribers s b (joined s b n (take (2 * o.ranges) f.bounds))) b
    ∷ [])
refusal_of o s (Leave b n) =
    first
    (too_large 1 (n ∷ [])
    ∷ when (not (nat_lt b o.brokers)) (NoSuchBroker b)
    ∷ when (not (known n (s.subscribers b))) (NotSubscribed n)
    ∷ no_room_to_tell o (with_subscribers s b (dropped n (s.subscribers b))) b
    ∷ [])
refusal_of o s (Post b k e) =
    first
    (too_large 1 (k ∷ take o.ranges e.numbers)
    ∷ when (not (nat_lt b o.brokers)) (NoSuchBroker b)
    ∷ when (has s.posted k) (NoticeUsed k)
    ∷ when (not (nat_lt (length s.posted) 4096)) (TooManyNotices 4096)
    ∷ no_room_to_pass o s b b k (take o.ranges e.numbers)
    ∷ no_room_to_deliver s b k (take o.ranges e.numbers)
    ∷ [])
refusal_of o s (Carry a b) =
    first
    (when (not (nat_lt a o.brokers)) (NoSuchBroker a)
    ∷ when (not (nat_lt b o.brokers)) (NoSuchBroker b)
    ∷ when (not (has (neighbours (tree o) a) b)) (NotBeside b)
    ∷ receiving o s a b (s.channel a b)
    ∷ [])

-- the network after a command: that of the model's step, or, if it is refused, the same
abbrev pub outcome : Option Refusal → (done same : Network) → Network
outcome None done same = done
outcome (Some r) done same = same

unfoldable pub after : Opening → Network → Command → Network
after o s d = outcome (refusal_of o s d) (step (tree o) s (command_of o d)) s

-- how many deliveries the command made
abbrev pub made : Opening → Network → Command → ℕ
made o s d = length (after o s d).deliveries - length s.deliveries

-- the answer: the refusal, or how many deliveries the command made
unfoldable pub answer_to : Opening → Network → Command → Result ℕ Refusal
answer_to o s d = ok_unless (refusal_of o s d) (made o s d)
