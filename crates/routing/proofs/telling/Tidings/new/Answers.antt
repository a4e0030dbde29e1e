use Rattle.std.proofs.Common.{◌≡◌, ℕ, ◌+◌, ◌*◌, ◌≤◌, ◌∙◌, mul-le-mul_left, arith}
use Rattle.layout.specs.Parts.{filters_room}
use Rattle.routing.proofs.Compared.{table_most, kept_whole, kept_most, last_kept, found_kept, lacks}
use Rattle.routing.proofs.Sendings.{ends_small, link_announced}
use Rattle.routing.proofs.telling.Tidings.new.Goals as goal

-- the filters of a list that a table has room for lie within as many words as the largest table has
within : (m k room words : ℕ) → k ≤ room → 1 + 2 * m * room ≤ 15601 → words ≡ 15601 → 2 * m * k ≤ words
within m k room words h r e = omega (arith, mul-le-mul_left (2 * m) h)

pub link-requires : goal.link-requires
link-requires c = ends_small c.args.opening.now c.args.broker c.args.n c.requires.beside

pub place-at-requires : goal.place-at-requires
place-at-requires c = link_announced c.args.opening.now c.args.broker c.args.n c.link.result c.requires.beside c.link.ensures

pub compare-many-requires : goal.compare-many-requires
compare-many-requires c =
    let o = c.args.opening.now in
    let memory = c.args.memory.now in
    let old = last_kept o memory c.requires.ready.formed c.args.broker c.args.n c.requires.beside c.link.result c.place-at.result.at c.place-at.result.end c.link.ensures c.place-at.ensures.start c.place-at.ensures.stop in
    let new = found_kept o memory c.args.broker c.requires.ready c.args.n c.requires.beside _ c.find.new.table c.requires.room c.find.ensures in
    let r = c.requires.rooms.0 in
    let s = c.requires.rooms.1 in
    let x = kept_most o _ _ old in
    let y = kept_most o _ _ new in
    record {
      count = o.valid.0.1;
      whole = (kept_whole (filters_room o) o.ranges _ _ old, kept_whole (filters_room o) o.ranges _ _ new);
      room = (omega arith, omega arith);
    }

pub new-requires : goal.new-requires
new-requires c =
    let o = c.args.opening.now in
    let memory = c.args.memory.now in
    let old = last_kept o memory c.requires.ready.formed c.args.broker c.args.n c.requires.beside c.link.result c.place-at.result.at c.place-at.result.end c.link.ensures c.place-at.ensures.start c.place-at.ensures.stop in
    let new = found_kept o memory c.args.broker c.requires.ready c.args.n c.requires.beside _ c.find.new.table c.requires.room c.find.ensures in
    let x = lacks (filters_room o) o.ranges _ _ _ _ new old c.compare-many.result.adds c.compare-many.new.adds _ c.compare-many.ensures.counted.0 c.compare-many.ensures.added in
    within o.ranges c.compare-many.result.adds (filters_room o) _ x.few (table_most o) (c.compare-many.auto.adds ∙ c.requires.rooms.0)

pub new-requires-2 : goal.new-requires-2
new-requires-2 c =
    let o = c.args.opening.now in
    let memory = c.args.memory.now in
    let old = last_kept o memory c.requires.ready.formed c.args.broker c.args.n c.requires.beside c.link.result c.place-at.result.at c.place-at.result.end c.link.ensures c.place-at.ensures.start c.place-at.ensures.stop in
    let new = found_kept o memory c.args.broker c.requires.ready c.args.n c.requires.beside _ c.find.new.table c.requires.room c.find.ensures in
    let y = lacks (filters_room o) o.ranges _ _ _ _ old new c.compare-many.result.cuts c.compare-many.new.cuts _ c.compare-many.ensures.counted.1 c.compare-many.ensures.gone in
    within o.ranges c.compare-many.result.cuts (filters_room o) _ y.few (table_most o) (c.compare-many.auto.cuts ∙ c.requires.rooms.1)

pub returns : goal.returns
returns c =
    let o = c.args.opening.now in
    let memory = c.args.memory.now in
    let old = last_kept o memory c.requires.ready.formed c.args.broker c.args.n c.requires.beside c.link.result c.place-at.result.at c.place-at.result.end c.link.ensures c.place-at.ensures.start c.place-at.ensures.stop in
    let new = found_kept o memory c.args.broker c.requires.ready c.args.n c.requires.beside _ c.find.new.table c.requires.room c.find.ensures in
    let x = lacks (filters_room o) o.ranges _ _ _ _ new old c.compare-many.result.adds c.compare-many.new.adds _ c.compare-many.ensures.counted.0 c.compare-many.ensures.added in
    let y = lacks (filters_room o) o.ranges _ _ _ _ old new c.compare-many.result.cuts c.compare-many.new.cuts _ c.compare-many.ensures.counted.1 c.compare-many.ensures.gone in
    record {
      table = rw c.requires.room at c.find.ensures;
      wide = (c.new.ensures.width, c.new-2.ensures.width);
      counted = (c.new.ensures.count ∙ x.counted, c.new-2.ensures.count ∙ y.counted);
      few = rw (c.new.ensures.count, c.new-2.ensures.count) (x.few, y.few);
      added = c.new.ensures.rows ∙ x.there;
      gone = c.new-2.ensures.rows ∙ y.there;
    }
