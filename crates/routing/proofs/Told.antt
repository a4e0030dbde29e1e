-- A broker tells one beside it: the messages on the channel, one batch in two steps, and then the table of what was announced.
use Rattle.std.proofs.Common.{◌≡◌, ℕ, ◌+◌, ◌*◌, ◌<◌, ◌≤◌, Bool, true, false, cond, ◌&&◌, eqb, List, ◌++◌, length, get_or, take, None, sym, refl, ap, ◌∙◌, subst, arith, length-append}
use mathlib.Core.Path.{fun_ext}
use Rattle.std.proofs.lemmas.List.{append_assoc, take_more, take_all}
use Rattle.std.proofs.lemmas.Bool.{eq-eqb, and_from}
use Rattle.filter.specs.Filter.{Filter}
use Rattle.cover.specs.Maximal.{minus}
use Rattle.cover.specs.Table.{rows, held, laid}
use Rattle.cover.proofs.RowLaws.{length_rows}
use Rattle.cover.proofs.TableLaws.{held_laid}
use Rattle.broker.specs.Announcing.{Keeps}
use Rattle.channel.specs.declared.batch.Change.{Change}
use Rattle.channel.specs.declared.batch.Change.TheVariants.{Add, Cut}
use Rattle.model.specs.Tree.{edge, has, neighbours}
use Rattle.model.specs.Model.{Message, Network, at2, batch, announcement, tell}
use Rattle.model.specs.Turn.{with_told, tell_one, told_to}
use Rattle.model.proofs.Tree.{neighbours_distinct}
use Rattle.model.proofs.OneByOne.{told_none, told_more, told_all, told_channel, told_announced, getD_has, distinct_take}
use Rattle.layout.specs.Memory.{table_words}
use Rattle.layout.specs.Parts.{tree, filters_room}
use Rattle.layout.specs.Mail.{telling}
use Rattle.layout.specs.State.{network_of, Encodes, Formed}
use Rattle.layout.specs.Changed.{with_channel, with_announced}
use Rattle.routing.specs.Rooms.{tidings, no_room_to_tell}
use Rattle.routing.specs.Around.{Bounded, Ready}
use Rattle.layout.specs.declared.opening.Opening.{Opening}
use Rattle.routing.proofs.Announced.{announcement_fits, announcement_wide}
use Rattle.layout.proofs.Encoded.{reads, formed}
use Rattle.routing.proofs.Room.{length_telling, full_none}
use Rattle.routing.proofs.Surrounded.{broker_within}
use Rattle.layout.proofs.Sized.{table_size}
use Rattle.layout.proofs.Written.{tree_hung}

-- what was written at a place is there, and what is written there next takes its place
at2_here : {A : Type 0} (f : ℕ → ℕ → A) (i j : ℕ) (x : A) → at2 f i j x i j ≡ x
at2_here f i j x = ap (λ t. cond t x (f i j)) (and_from (eqb i i) (eqb j j) (eq-eqb i i refl) (eq-eqb j j refl))

at2_again : {A : Type 0} (f : ℕ → ℕ → A) (i j : ℕ) (x y : A) → at2 (at2 f i j x) i j y ≡ at2 f i j y
at2_again {A = A} f i j x y = fun_ext (λ k. fun_ext (λ l. go (eqb k i && eqb l j) (f k l)))
  where
    go : (t : Bool) (z : A) → cond t y (cond t x z) ≡ cond t y z
    go true z = refl
    go false z = refl

-- messages sent after others, and then what was announced
sent_twice : (s : Network) (b n : ℕ) (ms ns : List Message) (fs : List Filter) →
    with_announced (with_channel (with_channel s b n (s.channel b n ++ ms)) b n ((with_channel s b n (s.channel b n ++ ms)).channel b n ++ ns)) b n fs
    ≡ with_told s (at2 s.announced b n fs) (at2 s.channel b n (s.channel b n ++ (ms ++ ns)))
sent_twice s b n ms ns fs =
    ap (with_told s (at2 s.announced b n fs))
    (at2_again s.channel b n (s.channel b n ++ ms) (at2 s.channel b n (s.channel b n ++ ms) b n ++ ns)
    ∙ ap (λ xs. at2 s.channel b n (xs ++ ns)) (at2_here s.channel b n (s.channel b n ++ ms))
    ∙ ap (at2 s.channel b n) (append_assoc (s.channel b n) ms ns))

-- after messages were sent the memory holds the network that is read from it
pub sent_formed : (o : Opening) (before later : List ℕ) (b n : ℕ) (change : Change) (count : ℕ) (filters : List ℕ) →
    Encodes o later (with_channel (network_of o before) b n ((network_of o before).channel b n ++ telling change (rows (2 * o.ranges) count filters))) → Formed o later
sent_formed o before later b n change count filters e = formed o later _ e

-- what the adds sent leave room for
pub room_after : (o : Opening) (s : Network) (b n : ℕ) (memory : List ℕ) (filters : List ℕ) (adds cuts : ℕ) →
    Encodes o memory (with_channel s b n (s.channel b n ++ telling Add (rows (2 * o.ranges) adds filters))) →
    length (s.channel b n) + (adds + cuts) ≤ o.messages → length ((network_of o memory).channel b n) + cuts ≤ o.messages
room_after o s b n memory filters adds cuts e h =
    let fs = rows (2 * o.ranges) adds filters in
    let p = ap (λ u. length (u.channel b n)) (reads o memory _ e) in
    let q = ap length (at2_here s.channel b n (s.channel b n ++ telling Add fs)) in
    let r = length-append (s.channel b n) (telling Add fs) in
    let t = length_telling Add fs in
    let l = length_rows (2 * o.ranges) adds filters in
    omega arith

module _ (o : Opening) (memory : List ℕ) (b : ℕ) (ready : Ready o memory b) (n : ℕ) (beside : edge (tree o) b n ≡ true) where
  -- the table of what is to be announced
  pub table_is : (size : ℕ) (table : List ℕ) → size ≡ table_words o.ranges o.brokers o.subscribers →
      table ≡ laid (2 * o.ranges) size (announcement (tree o) (network_of o memory) b n) →
      held (2 * o.ranges) table ≡ announcement (tree o) (network_of o memory) b n
  table_is size table e t = ap (held (2 * o.ranges)) t ∙ held_laid (2 * o.ranges) size _ (announcement_wide o memory b ready n beside)

  pub table_keeps : (size : ℕ) (table : List ℕ) → size ≡ table_words o.ranges o.brokers o.subscribers →
      table ≡ laid (2 * o.ranges) size (announcement (tree o) (network_of o memory) b n) →
      Keeps (filters_room o) o.ranges (held (2 * o.ranges) table) table
  table_keeps size table e t =
      subst (λ fs. Keeps (filters_room o) o.ranges fs table) (sym (table_is size table e t))
      (record {
        words = t ∙ ap (λ k. laid (2 * o.ranges) k (announcement (tree o) (network_of o memory) b n)) (e ∙ table_size o);
        wide = announcement_wide o memory b ready n beside;
        fits = announcement_fits o memory b ready n beside;
      })

  -- the memory after both batches and the announcement holds the network in which the broker has told n
  pub told_one : (first second last new gone table : List ℕ) (more less : ℕ) →
      Encodes o first (with_channel (network_of o memory) b n ((network_of o memory).channel b n ++ telling Add (rows (2 * o.ranges) more new))) →
      Encodes o second (with_channel (network_of o first) b n ((network_of o first).channel b n ++ telling Cut (rows (2 * o.ranges) less gone))) →
      Encodes o last (with_announced (network_of o second) b n (held (2 * o.ranges) table)) →
      rows (2 * o.ranges) more new ≡ minus (announcement (tree o) (network_of o memory) b n) ((network_of o memory).announced b n) →
      rows (2 * o.ranges) less gone ≡ minus ((network_of o memory).announced b n) (announcement (tree o) (network_of o memory) b n) →
      held (2 * o.ranges) table ≡ announcement (tree o) (network_of o memory) b n → Encodes o last (tell_one (tree o) b n (network_of o memory))
  unfolding batch
  told_one first second last new gone table more less e f g p q r =
      let s = network_of o memory in
      let ms = telling Add (rows (2 * o.ranges) more new) in
      let ns = telling Cut (rows (2 * o.ranges) less gone) in
      let fs = held (2 * o.ranges) table in
      subst (Encodes o last)
      (ap (λ u. with_announced u b n fs) (reads o second _ f)
      ∙ ap (λ u. with_announced (with_channel u b n (u.channel b n ++ ns)) b n fs) (reads o first _ e)
      ∙ sent_twice s b n ms ns fs
      ∙ (λ i. with_told s (at2 s.announced b n (r i)) (at2 s.channel b n (s.channel b n ++ (telling Add (p i) ++ telling Cut (q i))))))
      g

-- the broker has told its first j neighbours, one after the other: before the first, after the last, and the next one
module _ (o : Opening) (memory : List ℕ) (b : ℕ) (ready : Ready o memory b) where
  pub told_first : Encodes o memory (told_to (tree o) b (take 0 (neighbours (tree o) b)) (network_of o memory))
  told_first = subst (Encodes o memory) (sym (told_none (tree o) b (network_of o memory))) ready.formed

  module _ (j : ℕ) (at : List ℕ) (e : Encodes o at (told_to (tree o) b (take j (neighbours (tree o) b)) (network_of o memory))) where
    pub told_last : length (neighbours (tree o) b) ≤ j → Encodes o at (tell (tree o) b (network_of o memory))
    told_last l =
        let ns = neighbours (tree o) b in
        subst (Encodes o at)
        (ap (λ ks. told_to (tree o) b ks (network_of o memory)) (take_all j ns l)
        ∙ told_all (tree o) (tree_hung o) b (broker_within o b ready.there) (network_of o memory))
        e

    pub next_ready : Ready o at b
    next_ready =
        record {
          formed = formed o at _ e;
          there = ready.there;
          bounded = subst (λ s. Bounded o s b) (sym (reads o at _ e)) ready.bounded;
        }

    -- the next neighbour was not told yet
    fresh : j < length (neighbours (tree o) b) → has (take j (neighbours (tree o) b)) (get_or (neighbours (tree o) b) j 0) ≡ false
    fresh l =
        distinct_take (neighbours (tree o) b) j (neighbours_distinct (tree o) b (tree_hung o) (broker_within o b ready.there)) l

    pub next_room : no_room_to_tell o (network_of o memory) b ≡ None → j < length (neighbours (tree o) b) →
        length ((network_of o at).channel b (get_or (neighbours (tree o) b) j 0)) + length (tidings (tree o) (network_of o at) b (get_or (neighbours (tree o) b) j 0)) ≤ o.messages
    next_room r l =
        let n = get_or (neighbours (tree o) b) j 0 in
        let s = network_of o memory in
        let ks = take j (neighbours (tree o) b) in
        let h = full_none o.messages (s.channel b) (tidings (tree o) s b) (neighbours (tree o) b) n r (getD_has (neighbours (tree o) b) j l) in
        let p = told_channel (tree o) b ks n s (fresh l) in
        let q = told_announced (tree o) b ks n s (fresh l) in
        subst (λ u. length (u.channel b n) + length (tidings (tree o) u b n) ≤ o.messages) (sym (reads o at _ e))
        (subst (λ ms. length ms + length (batch ((told_to (tree o) b ks s).announced b n) (announcement (tree o) s b n)) ≤ o.messages) (sym p)
        (subst (λ fs. length (s.channel b n) + length (batch fs (announcement (tree o) s b n)) ≤ o.messages) (sym q) h))

    pub next_told : (later : List ℕ) → j < length (neighbours (tree o) b) → Encodes o later (tell_one (tree o) b (get_or (neighbours (tree o) b) j 0) (network_of o at)) →
        Encodes o later (told_to (tree o) b (take (j + 1) (neighbours (tree o) b)) (network_of o memory))
    next_told later l f =
        let n = get_or (neighbours (tree o) b) j 0 in
        let ns = neighbours (tree o) b in
        subst (Encodes o later)
        (ap (tell_one (tree o) b n) (reads o at _ e)
        ∙ sym (told_more (tree o) b (take j ns) n (network_of o memory) (fresh l))
        ∙ ap (λ ks. told_to (tree o) b ks (network_of o memory)) (sym (take_more ns j 0 l)))
        f
