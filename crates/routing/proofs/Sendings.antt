-- What is written to the part of a channel, or to the table of what was announced, where a broker tells one beside it.
use Rattle.std.proofs.Common.{◌≡◌, ℕ, ◌+◌, ◌-◌, ◌*◌, ◌<◌, ◌≤◌, nat_le, nat_lt, true, List, [], ◌∷◌, ◌++◌, map, length, get_or, refl, ap, subst, arith}
use borrow.Rule.Slice.PartMut.{put_mid}
use Rattle.std.specs.List.{between, AllByRecursion}
use Rattle.std.proofs.lemmas.Bool.{le-leb, lt-ltb}
use Rattle.std.proofs.lemmas.List.{length-map}
use Rattle.filter.specs.Filter.{Filter}
use Rattle.cover.specs.Table.{Wide}
use Rattle.cover.specs.Rows.{listed}
use Rattle.cover.specs.declared.rows.Rows.{Rows}
use Rattle.cover.proofs.RowLaws.{wide_head, wide_tail}
use Rattle.cover.proofs.TableLaws.{wide_rows}
use Rattle.broker.specs.Announcing.{Keeps}
use Rattle.channel.specs.declared.batch.Change.{Change}
use Rattle.channel.specs.declared.batch.Change.TheVariants.{Add, Cut}
use Rattle.channel.specs.Ring.{Row, Holds}
use Rattle.channel.specs.Batch.{told, all_told}
use Rattle.model.specs.Tree.{edge}
use Rattle.model.specs.Model.{Message, adds, cuts}
use Rattle.layout.specs.Links.{link}
use Rattle.layout.specs.Plan.{many_of, size_of, start_of}
use Rattle.layout.specs.Parts.{tree, plan_of, filters_room}
use Rattle.layout.specs.Mail.{row_for, telling, Sized, Carries}
use Rattle.layout.specs.State.{network_of, Encodes, Formed}
use Rattle.layout.specs.Changed.{with_channel, with_announced}
use Rattle.layout.specs.declared.opening.Opening.{Opening}
use Rattle.layout.proofs.Carried.{carries_count, carries_more}
use Rattle.layout.proofs.Written.{lent, lent_part, edge_brokers, link_within_o, put_channel, put_announced}

-- brokers beside each other have numbers below 16
pub ends_small : (o : Opening) (a b : ℕ) → edge (tree o) a b ≡ true → (a < 16) × (b < 16)
ends_small o a b e =
    let (p, q) = edge_brokers o a b e in
    let v = o.valid.1.1 in
    (omega arith, omega arith)

-- a channel that has room for one message, or for some, says so by its count
pub lets_one : (room m : ℕ) (ps : List Message) (ws : List ℕ) → Carries room m ps ws → length ps < room → nat_lt (get_or ws 1 0) room ≡ true
lets_one room m ps ws h l = lt-ltb (get_or ws 1 0) room (omega (arith, carries_count room m ps ws h, l))

pub lets_some : (room m : ℕ) (ps : List Message) (ws : List ℕ) → Carries room m ps ws → (k : ℕ) → length ps + k ≤ room → nat_le (get_or ws 1 0 + k) room ≡ true
lets_some room m ps ws h k l = le-leb (get_or ws 1 0 + k) room (omega (arith, carries_count room m ps ws h, l))

-- the channel between them, and the table of what was announced on it, are parts of the memory
pub link_channel : (o : Opening) (a b l : ℕ) → edge (tree o) a b ≡ true → l ≡ link a b → l < many_of (plan_of o) 4
unfolding many_of
link_channel o a b l e p = rw p (link_within_o o a b e)

pub link_announced : (o : Opening) (a b l : ℕ) → edge (tree o) a b ≡ true → l ≡ link a b → l < many_of (plan_of o) 2
unfolding many_of
link_announced o a b l e p = rw p (link_within_o o a b e)

-- the words of the messages that tell of filters
told_rows : (change : Change) (m : ℕ) (fs : List Filter) → map (told change) fs ≡ map (row_for m) (telling change fs)
unfolding adds cuts
told_rows Add m [] = refl
told_rows Add m (f ∷ fs) = ap (λ xs. told Add f ∷ xs) (told_rows Add m fs)
told_rows Cut m [] = refl
told_rows Cut m (f ∷ fs) = ap (λ xs. told Cut f ∷ xs) (told_rows Cut m fs)

sized_telling : (change : Change) (m : ℕ) (fs : List Filter) → Wide (2 * m) fs → AllByRecursion (Sized m) (telling change fs)
unfolding adds cuts
sized_telling Add m [] h = tt
sized_telling Add m (f ∷ fs) h = (wide_head (2 * m) f fs h, sized_telling Add m fs (wide_tail (2 * m) f fs h))
sized_telling Cut m [] h = tt
sized_telling Cut m (f ∷ fs) h = (wide_head (2 * m) f fs h, sized_telling Cut m fs (wide_tail (2 * m) f fs h))

-- the l-th part of a kind is lent from `at` to `stop`
module _ (o : Opening) (memory : List ℕ) (h : Formed o memory) (a b : ℕ) (e : edge (tree o) a b ≡ true) (l at stop : ℕ) (p : l ≡ link a b) where
  module _ (q : at ≡ start_of (plan_of o) 4 l) (r : stop ≡ start_of (plan_of o) 4 l + size_of (plan_of o) 4) where
    pub lent_channel : Carries o.messages o.ranges ((network_of o memory).channel a b) (between at stop memory)
    lent_channel =
        let x = lent_part (plan_of o) 4 l at stop memory q r in
        rw (x, p) (h.channel a b e)

    -- messages for some filters, written behind the last message
    pub sent : (change : Change) (filters : Rows) (new : List ℕ) → filters.width ≡ 2 * o.ranges →
        length ((network_of o memory).channel a b) + filters.left ≤ o.messages →
        ((begin : ℕ) (xs : List Row) → Holds o.messages (2 + 2 * o.ranges) begin xs (between at stop memory) → length xs + filters.left ≤ o.messages →
        Holds o.messages (2 + 2 * o.ranges) begin (xs ++ all_told change (listed filters)) new) →
        Encodes o (put_mid at (stop - at) memory new)
        (with_channel (network_of o memory) a b ((network_of o memory).channel a b ++ telling change (listed filters)))
    sent change filters new w room holds =
        let c = lent_channel in
        let ms = (network_of o memory).channel a b in
        let fs = listed filters in
        let n = length-map ms (row_for o.ranges) in
        let k = holds (get_or (between at stop memory) 0 0) (map (row_for o.ranges) ms) c.rows (omega arith) in
        let wide = subst (λ v. Wide v fs) w (wide_rows filters.width filters.left filters.words.now filters.there) in
        let m = carries_more o.messages o.ranges ms (telling change fs) (between at stop memory) new c
        (sized_telling change o.ranges fs wide) (rw (told_rows change o.ranges fs) at k) in
        let x = lent (plan_of o) 4 l at stop memory new q r in
        rw (x, p) (put_channel o memory (network_of o memory) h a b e (ms ++ telling change fs) new m)

  module _ (q : at ≡ start_of (plan_of o) 2 l) (r : stop ≡ start_of (plan_of o) 2 l + size_of (plan_of o) 2) where
    pub lent_announced : Keeps (filters_room o) o.ranges ((network_of o memory).announced a b) (between at stop memory)
    lent_announced =
        let x = lent_part (plan_of o) 2 l at stop memory q r in
        rw (x, p) (h.announced a b e)

    -- a table written over what was announced last
    pub announced_now : (fs : List Filter) (table new : List ℕ) → Keeps (filters_room o) o.ranges fs table → new ≡ table →
        Encodes o (put_mid at (stop - at) memory new) (with_announced (network_of o memory) a b fs)
    announced_now fs table new k g =
        let x = lent (plan_of o) 2 l at stop memory new q r in
        rw (x, p, g) (put_announced o memory (network_of o memory) h a b e fs table k)
