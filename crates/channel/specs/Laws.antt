-- What holds of every message and every channel.
use Rattle.std.specs.Prelude.{◌≡◌, ℕ, ◌+◌, ◌*◌, ◌<◌, ◌≤◌, List, [], replicate}
use Rattle.channel.specs.declared.message.Message.{Message}
use Rattle.channel.specs.Message.{words, message, Fitting}
use Rattle.channel.specs.Ring.{Row, Holds}

-- the words of a message stand for it
abbrev pub RoundTrip : Type 0
RoundTrip = (m : ℕ) (a : Message) → m ≤ 8 → Fitting m a → message m (words m a) ≡ a

-- no two messages have the same words
abbrev pub WordsDiffer : Type 0
WordsDiffer = (m : ℕ) (a b : Message) → m ≤ 8 → Fitting m a → Fitting m b → words m a ≡ words m b → a ≡ b

-- words hold one list of rows at most, and the ring begins at one slot
abbrev pub OneReading : Type 0
OneReading = (room width begin start : ℕ) (xs ys : List Row) (ws : List ℕ) → Holds room width begin xs ws → Holds room width start ys ws → (begin ≡ start) × (xs ≡ ys)

-- cleared words are an empty channel
abbrev pub ClearedIsEmpty : Type 0
ClearedIsEmpty = (room width : ℕ) → 0 < room → Holds room width 0 [] (replicate (2 + width * room) 0)
