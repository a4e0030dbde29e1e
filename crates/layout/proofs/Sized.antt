-- How many words a part takes, by the words of each thing that it has room for.
use Rattle.std.proofs.Common.{◌≡◌, ◌+◌, ◌*◌, ap, mul_comm}
use Rattle.layout.specs.Memory.{table_words}
use Rattle.layout.specs.Plan.{size_of}
use Rattle.layout.specs.Parts.{plan_of, filters_room}
use Rattle.layout.specs.declared.opening.Opening.{Opening}

pub subscribers_size : (o : Opening) → size_of (plan_of o) 0 ≡ 1 + (1 + 2 * o.ranges) * o.subscribers
unfolding size_of
subscribers_size o = ap (λ n. 1 + n) (mul_comm o.subscribers (1 + 2 * o.ranges))

pub table_size : (o : Opening) → table_words o.ranges o.brokers o.subscribers ≡ 1 + 2 * o.ranges * filters_room o
table_size o = ap (λ n. 1 + n) (mul_comm (filters_room o) (2 * o.ranges))

-- the tables that were announced, and those that were learned
pub tables_size : (o : Opening) → (size_of (plan_of o) 2 ≡ 1 + 2 * o.ranges * filters_room o) × (size_of (plan_of o) 3 ≡ 1 + 2 * o.ranges * filters_room o)
unfolding size_of
tables_size o = (table_size o, table_size o)

pub channel_size : (o : Opening) → size_of (plan_of o) 4 ≡ 2 + (2 + 2 * o.ranges) * o.messages
unfolding size_of
channel_size o = ap (λ n. 2 + n) (mul_comm o.messages (2 + 2 * o.ranges))
