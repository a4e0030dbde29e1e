-- The messages under way, replayed on a table one after the other: what of a test that has to last is still to be asked.
use Rattle.std.proofs.Common.{◌≡◌, ℕ, ◌+◌, ◌*◌, ◌<◌, ◌≤◌, Bool, true, false, cond, ◌&&◌, ltb, List, [], ◌∷◌, map, length, get_or, drop, Some, None, sym, refl, ap, ◌∙◌, subst, mul-le-mul_left, arith}
use Rattle.std.proofs.ByRecursion.{All-get_or}
use Rattle.std.proofs.lemmas.List.{drop_more, drop_all, length-map, get_or-map}
use Rattle.std.proofs.lemmas.Bool.{ltb-true, leb-true, le-leb}
use Rattle.filter.specs.Filter.{Filter}
use Rattle.cover.specs.Maximal.{any_covers}
use Rattle.cover.specs.Sorted.{sorted}
use Rattle.cover.specs.Table.{held, stored, changed}
use Rattle.broker.specs.Announcing.{Keeps}
use Rattle.broker.proofs.Kept.{held_kept, length_kept, with_kept}
use Rattle.channel.specs.Message.{words, message as meant}
use Rattle.channel.specs.declared.message.Message.{Message as Sent}
use Rattle.model.specs.Tree.{edge}
use Rattle.model.specs.Model.{Message, notice, after}
use Rattle.model.specs.Promise.{lasts, covering}
use Rattle.model.specs.Invariant.{short, bound, Fits}
use Rattle.model.proofs.Tree.{edge_sym}
use Rattle.model.proofs.Messages.{lasts_now, lasts_after, lasts_weaker, after_sorted}
use Rattle.layout.specs.Parts.{tree, filters_room}
use Rattle.layout.specs.Mail.{row_for, message_in, Sized, Carries}
use Rattle.layout.specs.State.{network_of}
use Rattle.steps.specs.Sound.{Sound}
use Rattle.layout.specs.declared.opening.Opening.{Opening}
use Rattle.routing.proofs.Compared.{kept_whole}
use Rattle.steps.proofs.Oldest.{read_back}
use Rattle.steps.proofs.Options.{found, found_is}
use Rattle.steps.proofs.Tabled.{wide_after, bound_room}

-- the message that was asked for by its place on a channel
pub message_at : (room m : ℕ) (ms : List Message) (ws : List ℕ) → Carries room m ms ws → m ≤ 8 → (i : ℕ) (x : Sent) →
    Some x ≡ cond (ltb i (length (map (row_for m) ms))) (Some (meant m (get_or (map (row_for m) ms) i []))) None →
    (drop i ms ≡ message_in m (words m x) ∷ drop (i + 1) ms) × Sized m (message_in m (words m x))
message_at room m ms ws c few i x asked =
    let none = notice 0 [] in
    let t = ltb-true i (length (map (row_for m) ms)) (found _ _ _ asked) in
    let l = length-map ms (row_for m) in
    let h : i < length ms = omega arith in
    let e = found_is _ _ _ asked ∙ ap (meant m) (get_or-map (row_for m) ms i none [] h) in
    let s = All-get_or (Sized m) ms i none h c.sized in
    let q : message_in m (words m x) ≡ get_or ms i none = ap (λ y. message_in m (words m y)) e ∙ read_back m (get_or ms i none) few s in
    (drop_more ms i none h ∙ ap (λ y. y ∷ drop (i + 1) ms) (sym q), subst (Sized m) (sym q) s)

-- what does not hold now does not last
lasts_not : (P : List Filter → Bool) (ms : List Message) (fs : List Filter) → P fs ≡ false → lasts P ms fs ≡ false
unfolding lasts
lasts_not P [] fs h = h
lasts_not P (m ∷ ms) fs h = ap (λ v. v && lasts P ms (after m fs)) h

lasts_more : (P : List Filter → Bool) (m : Message) (ms : List Message) (fs : List Filter) → P fs ≡ true → lasts P (m ∷ ms) fs ≡ lasts P ms (after m fs)
unfolding lasts
lasts_more P m ms fs h = ap (λ v. v && lasts P ms (after m fs)) h

-- the first i of the messages ms have been replayed on the filters fs, and the table holds what they have made of them; the test P held so far, so that
-- it lasts from the beginning just if it lasts from here
pub record Replaying (room m : ℕ) (P : List Filter → Bool) (ms : List Message) (fs : List Filter) (i : ℕ) (table : List ℕ) : Type 0 where
  pub now : List Filter
  pub words : Keeps room m now table
  pub ordered : sorted now ≡ true
  pub short : lasts (short room) (drop i ms) now ≡ true
  pub rest : lasts P ms fs ≡ lasts P (drop i ms) now

pub replay_begins : (o : Opening) (memory : List ℕ) → Sound o memory → (a b : ℕ) → edge (tree o) a b ≡ true → (P : List Filter → Bool) (table : List ℕ) →
    Keeps (filters_room o) o.ranges ((network_of o memory).learned b a) table →
    Replaying (filters_room o) o.ranges P ((network_of o memory).channel a b) ((network_of o memory).learned b a) 0 table
unfolding Fits
replay_begins o memory sound a b e P table keeps =
    let s = network_of o memory in
    let back = edge_sym (tree o) b a ∙ e in
    record {
      now = s.learned b a;
      words = keeps;
      ordered = sound.invariant.right.tables.learned_sorted b a;
      short =
          lasts_weaker (short (bound (tree o) o.subscribers b a)) (short (filters_room o))
          (λ fs h.
          let l = leb-true (length fs) (bound (tree o) o.subscribers b a) h in
          let r = bound_room o b a back in
          le-leb (length fs) (filters_room o) (omega arith))
          (s.channel a b) (s.learned b a) (sound.invariant.fits b a back);
      rest = refl;
    }

module _ {room m : ℕ} {P : List Filter → Bool} {ms : List Message} {fs : List Filter} {i : ℕ} {table : List ℕ} (h : Replaying room m P ms fs i table) where
  pub replay_whole : (w : ℕ) → w ≡ 2 * m → 1 + w * get_or table 0 0 ≤ length table
  replay_whole w e = rw e (kept_whole room m h.now table h.words)

  pub replay_order : sorted (held (2 * m) table) ≡ true
  replay_order = ap sorted (held_kept room m h.now table h.words) ∙ h.ordered

  -- the test fails here
  pub replay_fails : P h.now ≡ false → false ≡ lasts P ms fs
  replay_fails q = sym (h.rest ∙ lasts_not P (drop i ms) h.now q)

  -- all messages have been replayed
  pub replay_ends : length ms ≤ i → P h.now ≡ lasts P ms fs
  unfolding lasts
  replay_ends l = sym (h.rest ∙ ap (λ ns. lasts P ns h.now) (drop_all i ms l))

  -- the next message
  module _ (p : Message) (next : drop i ms ≡ p ∷ drop (i + 1) ms) where
    then_short : lasts (short room) (drop (i + 1) ms) (after p h.now) ≡ true
    then_short = lasts_after (short room) p (drop (i + 1) ms) h.now (ap (λ ns. lasts (short room) ns h.now) (sym next) ∙ h.short)

    then_fits : length (after p h.now) ≤ room
    then_fits = leb-true (length (after p h.now)) room (lasts_now (short room) (drop (i + 1) ms) (after p h.now) then_short)

    pub replay_room : 1 + 2 * m * length (after p (held (2 * m) table)) ≤ length table
    replay_room =
        let e = ap (λ gs. 2 * m * length (after p gs)) (held_kept room m h.now table h.words) in
        let k = length_kept room m h.now table h.words in
        let x = mul-le-mul_left (2 * m) then_fits in
        omega arith

    -- is replayed
    pub replay_more : Sized m p → P h.now ≡ true → (new : List ℕ) → new ≡ changed (2 * m) (after p) table → Replaying room m P ms fs (i + 1) new
    replay_more sized holds new is =
        record {
          now = after p h.now;
          words =
              with_kept room m h.now (after p h.now) table h.words (wide_after m p h.now sized h.words.wide) then_fits new
              (is ∙ ap (λ gs. stored (2 * m) (after p gs) table) (held_kept room m h.now table h.words));
          ordered = after_sorted p h.now h.ordered;
          short = then_short;
          rest = h.rest ∙ ap (λ ns. lasts P ns h.now) next ∙ lasts_more P p (drop (i + 1) ms) h.now holds;
        }

  -- whether a row of the table covers f
  pub replay_covers : (f : Filter) → length f ≡ 2 * m → (rows : List Filter) → rows ≡ held (length f) table → (v : Bool) → v ≡ any_covers rows f → v ≡ covering f h.now
  replay_covers f l rows e v q =
      q ∙ ap (λ gs. any_covers gs f) (e ∙ ap (λ w. held w table) l ∙ held_kept room m h.now table h.words)
