-- What holds of every broker's part of the memory.
use Rattle.std.specs.Prelude.{◌≡◌, ℕ, ◌+◌, ◌*◌, List, [], replicate}
use Rattle.filter.specs.Filter.{Filter}
use Rattle.cover.specs.Table.{held}
use Rattle.broker.specs.Subscribers.{Subscriber, subscribers, Holds}
use Rattle.broker.specs.Announcing.{Keeps}

-- words hold one list of subscribers at most, the one that is read from them, and one table at most
pub record OneReading : Type 0 where
  pub subscribed : (room m : ℕ) (rs : List Subscriber) (ws : List ℕ) → Holds room m rs ws → subscribers m ws ≡ rs
  pub kept : (room m : ℕ) (fs : List Filter) (ws : List ℕ) → Keeps room m fs ws → held (2 * m) ws ≡ fs

-- cleared words hold nobody, and are an empty table
pub record ClearedIsEmpty : Type 0 where
  pub subscribed : (room m : ℕ) → Holds room m [] (replicate (1 + (1 + 2 * m) * room) 0)
  pub kept : (room m : ℕ) → Keeps room m [] (replicate (1 + 2 * m * room) 0)
