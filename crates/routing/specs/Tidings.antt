-- What a broker has to tell one beside it.
use Rattle.std.specs.Prelude.{◌≡◌, ℕ, ◌*◌, ◌≤◌, length}
use Rattle.cover.specs.Maximal.{minus}
use Rattle.cover.specs.Rows.{listed}
use Rattle.cover.specs.Table.{laid}
use Rattle.model.specs.Model.{Network, announcement}
use Rattle.layout.specs.Memory.{table_words}
use Rattle.layout.specs.Parts.{tree, filters_room}
use Rattle.layout.specs.declared.opening.Opening.{Opening}
use Rattle.routing.specs.declared.telling.Tidings.{Tidings}

-- broker b announces this to n, and these filters are new and those no more since it told it last
pub record Told (o : Opening) (s : Network) (b n : ℕ) (t : Tidings) : Type 0 where
  pub table : t.table.now ≡ laid (2 * o.ranges) (table_words o.ranges o.brokers o.subscribers) (announcement (tree o) s b n)
  pub wide : (t.adds.width ≡ 2 * o.ranges) × (t.cuts.width ≡ 2 * o.ranges)
  pub counted : (t.adds.left ≡ length (minus (announcement (tree o) s b n) (s.announced b n))) × (t.cuts.left ≡ length (minus (s.announced b n) (announcement (tree o) s b n)))
  pub few : (t.adds.left ≤ filters_room o) × (t.cuts.left ≤ filters_room o)
  pub added : listed t.adds ≡ minus (announcement (tree o) s b n) (s.announced b n)
  pub gone : listed t.cuts ≡ minus (s.announced b n) (announcement (tree o) s b n)
