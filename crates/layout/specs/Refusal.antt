-- The refusals by their numbers and places, as users see them.
use Rattle.std.specs.Prelude.{ℕ, List, ◌++◌, codes, decimal}
use Rattle.layout.specs.declared.refusal.Refusal.{Refusal}
use Rattle.layout.specs.declared.refusal.Refusal.TheVariants.{BadOpening, NoSuchBroker, NotBeside, NumberUsed, NotSubscribed, BrokerFull, NoticeUsed, NumberTooLarge, TooManyNotices, ChannelFull, TooManyDeliveries}

abbrev pub refusal_number : Refusal → ℕ
refusal_number (BadOpening place) = 1
refusal_number (NoSuchBroker broker) = 2
refusal_number (NotBeside broker) = 2
refusal_number (NumberUsed number) = 3
refusal_number (NotSubscribed number) = 3
refusal_number (BrokerFull room) = 4
refusal_number (NoticeUsed number) = 5
refusal_number (NumberTooLarge place) = 6
refusal_number (TooManyNotices room) = 7
refusal_number (ChannelFull broker) = 8
refusal_number (TooManyDeliveries room) = 9

abbrev pub refusal_place : Refusal → ℕ
refusal_place (BadOpening place) = place
refusal_place (NoSuchBroker broker) = broker
refusal_place (NotBeside broker) = broker
refusal_place (NumberUsed number) = number
refusal_place (NotSubscribed number) = number
refusal_place (BrokerFull room) = room
refusal_place (NoticeUsed number) = number
refusal_place (NumberTooLarge place) = place
refusal_place (TooManyNotices room) = room
refusal_place (ChannelFull broker) = broker
refusal_place (TooManyDeliveries room) = room

-- the line that a refusal prints
abbrev pub refusal_line : Refusal → List ℕ
refusal_line r = codes "refused " ++ (decimal (refusal_number r) ++ (codes " at " ++ decimal (refusal_place r)))
