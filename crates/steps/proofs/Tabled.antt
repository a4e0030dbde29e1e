-- An add or a cut reaches the table of the broker where it arrives: there is room for that, and what the memory holds after each step.
use Rattle.std.proofs.Common.{◌≡◌, ℕ, suc, ◌+◌, ◌-◌, ◌*◌, ◌<◌, ◌≤◌, Bool, true, false, cond, ◌&&◌, eqb, List, ◌∷◌, ◌++◌, length, get_or, None, Ok, sym, refl, ap, ◌∙◌, subst, mul_comm, mul-le-mul_left, add-one, arith}
use mathlib.Core.Path.{fun_ext}
use borrow.Rule.Slice.PartMut.{put_mid}
use Rattle.std.specs.List.{between, AllByRecursion}
use Rattle.std.proofs.lemmas.Bool.{and_parts, and_left, eqb-true, eqb-false, ne_eqb, leb-true, cond-false}
use Rattle.filter.specs.Filter.{Filter}
use Rattle.cover.specs.Sorted.{sorted}
use Rattle.cover.specs.Table.{Wide, held, stored, changed}
use Rattle.cover.proofs.TableLaws.{wide_put, wide_without}
use Rattle.broker.specs.Announcing.{Keeps}
use Rattle.broker.proofs.Kept.{held_kept, length_kept, with_kept}
use Rattle.model.specs.Tree.{edge, has, neighbours}
use Rattle.model.specs.Model.{Message, add, cut, notice, Network, at2, send, batch, announcement, after, taken, tell}
use Rattle.model.specs.Promise.{lasts, brokers_behind}
use Rattle.model.specs.Invariant.{short, bound, Fits}
use Rattle.model.proofs.Tree.{edge_sym}
use Rattle.model.proofs.Behind.{behind_fewer}
use Rattle.model.proofs.Cases.{tidings as is_change}
use Rattle.model.proofs.Fit.{fits_now}
use Rattle.model.proofs.Messages.{lasts_now, lasts_after}
use Rattle.layout.specs.Links.{link}
use Rattle.layout.specs.Plan.{size_of, start_of}
use Rattle.layout.specs.Parts.{tree, plan_of, filters_room}
use Rattle.layout.specs.Mail.{Sized}
use Rattle.layout.specs.State.{network_of, Encodes}
use Rattle.layout.specs.Changed.{with_table, with_channel}
use Rattle.routing.specs.Rooms.{full, tidings, no_room_to_tell}
use Rattle.steps.specs.Rules.{refusal_of}
use Rattle.routing.specs.Around.{Bounded, Ready}
use Rattle.steps.specs.Sound.{Sound, Performed}
use Rattle.layout.specs.declared.opening.Opening.{Opening}
use Rattle.layout.specs.declared.command.Command.TheVariants.{Carry}
use Rattle.steps.proofs.Carrying.{ends_apart, carry_refusal_change, carry_step_change}
use Rattle.routing.proofs.Compared.{kept_whole}
use Rattle.layout.proofs.Encoded.{reads, formed}
use Rattle.steps.proofs.Lent.{lent_learned}
use Rattle.steps.proofs.Performing.{done_performed}
use Rattle.layout.proofs.Sized.{tables_size}
use Rattle.layout.proofs.Written.{lent, tree_length, tree_hung, put_learned}

pub wide_after : (m : ℕ) (p : Message) (fs : List Filter) → Sized m p → Wide (2 * m) fs → Wide (2 * m) (after p fs)
unfolding after
wide_after m (add f) fs s h = wide_put (2 * m) f fs s h
wide_after m (cut f) fs s h = wide_without (2 * m) f fs h
wide_after m (notice k e) fs s h = h

-- the bound that the brokers behind give is within the room of a table
pub bound_room : (o : Opening) (b n : ℕ) → edge (tree o) b n ≡ true → suc o.subscribers * brokers_behind (tree o) b n ≤ filters_room o
bound_room o b n e =
    let f = behind_fewer (tree o) (tree_hung o) b n e in
    let m = mul-le-mul_left (suc o.subscribers) f in
    let l = tree_length o in
    let x : suc o.subscribers * length (tree o) ≡ (o.brokers - 1) * (o.subscribers + 1) = rw (l, add-one) (mul_comm (suc o.subscribers) (o.brokers - 1)) in
    omega arith

-- broker b sends on its own channels, so what is left of another's is the same before and after
send_elsewhere : (b a : ℕ) → eqb a b ≡ false → (ns : List ℕ) (out : ℕ → List Message) (channel : ℕ → ℕ → List Message) (ps : List Message) →
    at2 (send b ns out channel) a b ps ≡ send b ns out (at2 channel a b ps)
send_elsewhere b a d ns out channel ps = fun_ext (λ x. fun_ext (λ n. go x n (eqb x a && eqb n b) refl (eqb x b && has ns n) refl))
  where
    go : (x n : ℕ) (u : Bool) → (eqb x a && eqb n b) ≡ u → (v : Bool) → (eqb x b && has ns n) ≡ v →
        cond u ps (cond v (channel x n ++ out n) (channel x n)) ≡ cond v (cond u ps (channel x n) ++ out n) (cond u ps (channel x n))
    go x n true g true h =
        let i = eqb-true x a (and_parts (eqb x a) (eqb n b) g).0 in
        let j = eqb-true x b (and_parts (eqb x b) (has ns n) h).0 in
        absurd (eqb-false a b d (sym i ∙ j))
    go x n true g false h = refl
    go x n false g true h = refl
    go x n false g false h = refl

module _ (o : Opening) (memory : List ℕ) (sound : Sound o memory) (a b : ℕ) (e : edge (tree o) a b ≡ true) (p : Message) (ps : List Message)
    (oldest : (network_of o memory).channel a b ≡ p ∷ ps) where
  -- what b has learned from a once the message has arrived
  abbrev then : List Filter
  then = after p ((network_of o memory).learned b a)

  after_short : length then ≤ suc o.subscribers * brokers_behind (tree o) b a
  unfolding Fits
  after_short =
      let s = network_of o memory in
      let most = bound (tree o) o.subscribers b a in
      let l : lasts (short most) (p ∷ ps) (s.learned b a) ≡ true =
      ap (λ ms. lasts (short most) ms (s.learned b a)) (sym oldest) ∙ sound.invariant.fits b a (edge_sym (tree o) b a ∙ e) in
      leb-true (length then) most (lasts_now (short most) ps then (lasts_after (short most) p ps (s.learned b a) l))

  after_fits : length then ≤ filters_room o
  after_fits =
      let x = after_short in
      let y = bound_room o b a (edge_sym (tree o) b a ∙ e) in
      omega arith

  after_wide : Wide (2 * o.ranges) then
  after_wide =
      wide_after o.ranges p ((network_of o memory).learned b a) (subst (AllByRecursion (Sized o.ranges)) oldest (sound.formed.channel a b e).sized).0
      (sound.formed.learned a b e).wide

  -- the table is lent from `at` to `stop`
  module _ (l at stop : ℕ) (i : l ≡ link a b) (q : at ≡ start_of (plan_of o) 3 l) (r : stop ≡ start_of (plan_of o) 3 l + size_of (plan_of o) 3) where
    pub table : Keeps (filters_room o) o.ranges ((network_of o memory).learned b a) (between at stop memory)
    table = lent_learned o memory sound.formed a b e l at stop i q r

    held_there : held (2 * o.ranges) (between at stop memory) ≡ (network_of o memory).learned b a
    held_there = held_kept (filters_room o) o.ranges ((network_of o memory).learned b a) (between at stop memory) table

    pub table_whole : 1 + 2 * o.ranges * get_or (between at stop memory) 0 0 ≤ length (between at stop memory)
    table_whole = kept_whole (filters_room o) o.ranges ((network_of o memory).learned b a) (between at stop memory) table

    pub table_order : sorted (held (2 * o.ranges) (between at stop memory)) ≡ true
    table_order = ap sorted held_there ∙ sound.invariant.right.tables.learned_sorted b a

    pub table_room : 1 + 2 * o.ranges * length (after p (held (2 * o.ranges) (between at stop memory))) ≤ length (between at stop memory)
    table_room =
        let h = ap (λ fs. 2 * o.ranges * length (after p fs)) held_there in
        let k = length_kept (filters_room o) o.ranges ((network_of o memory).learned b a) (between at stop memory) table in
        let m = mul-le-mul_left (2 * o.ranges) after_fits in
        omega arith

    -- the words after the message has reached the table
    module _ (new : List ℕ) (is : new ≡ changed (2 * o.ranges) (after p) (between at stop memory)) where
      table_then : Keeps (filters_room o) o.ranges then new
      table_then =
          with_kept (filters_room o) o.ranges ((network_of o memory).learned b a) then (between at stop memory) table after_wide after_fits new
          (is ∙ ap (λ fs. stored (2 * o.ranges) (after p fs) (between at stop memory)) held_there)

      pub new_length : length new ≡ size_of (plan_of o) 3
      new_length = length_kept (filters_room o) o.ranges then new table_then ∙ sym (tables_size o).1

      pub table_changed : Encodes o (put_mid at (stop - at) memory new) (with_table (network_of o memory) b a then)
      table_changed =
          let x = lent (plan_of o) 3 l at stop memory new q r in
          rw (x, i) (put_learned o memory (network_of o memory) sound.formed a b e then new table_then)

  -- broker b can find what it has to announce
  module _ (memory₁ : List ℕ) (holds : Encodes o memory₁ (with_table (network_of o memory) b a then)) where
    bounded : Bounded o (with_table (network_of o memory) b a then) b
    bounded n d = go (eqb b b && eqb n a) refl
      where
        go : (t : Bool) → (eqb b b && eqb n a) ≡ t → length (cond t then ((network_of o memory).learned b n)) ≤ suc o.subscribers * brokers_behind (tree o) b n
        go true g =
            let k = eqb-true n a (and_parts (eqb b b) (eqb n a) g).1 in
            rw k after_short
        go false g = fits_now (tree o) (tree_hung o) o.subscribers (network_of o memory) sound.invariant.fits b n d

    pub table_ready : b < o.brokers → Ready o memory₁ b
    table_ready there = record { there = there; formed = formed o memory₁ _ holds; bounded = subst (λ u. Bounded o u b) (sym (reads o memory₁ _ holds)) bounded }

    module _ (change : is_change p ≡ true) where
      -- the channels from b are as they were, so there is room for what b tells now just where there is room when the message is gone
      same_room : no_room_to_tell o (with_table (network_of o memory) b a then) b ≡ no_room_to_tell o (taken (network_of o memory) a b p ps) b
      same_room =
          let s = network_of o memory in
          let d = ne_eqb b a (λ g. eqb-false a b (ends_apart o s a b e) (sym g)) in
          ap (λ channel. full o.messages channel (tidings (tree o) (with_table s b a then) b) (neighbours (tree o) b))
          (fun_ext (λ n. sym (cond-false (eqb b a && eqb n b) ps (s.channel b n) (and_left (eqb b a) (eqb n b) d))))

      pub change_refusal : no_room_to_tell o (network_of o memory₁) b ≡ refusal_of o (network_of o memory) (Carry a b)
      change_refusal =
          ap (λ s. no_room_to_tell o s b) (reads o memory₁ _ holds) ∙ same_room ∙ sym (carry_refusal_change o (network_of o memory) a b e p ps oldest change)

      -- b has told: the memory then holds this network, in which the message is still under way
      told : Network
      told = tell (tree o) b (with_table (network_of o memory) b a then)

      told_channel : told.channel a b ≡ p ∷ ps
      unfolding tell told
      told_channel = cond-false (eqb a b && has (neighbours (tree o) b) b) _ _ (and_left (eqb a b) (has (neighbours (tree o) b) b) (ends_apart o (network_of o memory) a b e)) ∙ oldest

      -- and without it
      told_without : with_channel told a b ps ≡ tell (tree o) b (taken (network_of o memory) a b p ps)
      unfolding tell told
      told_without =
          let s = network_of o memory in
          λ j.
          record {
            subscribers = s.subscribers;
            learned = at2 s.learned b a then;
            announced = told.announced;
            channel =
                send_elsewhere b a (ends_apart o s a b e) (neighbours (tree o) b) (λ n. batch (s.announced b n) (announcement (tree o) (with_table s b a then) b n)) s.channel ps j;
            posted = s.posted;
            arrived = s.arrived;
            deliveries = s.deliveries;
          }

      module _ (memory₂ : List ℕ) (tells : Encodes o memory₂ (tell (tree o) b (network_of o memory₁))) where
        now_told : network_of o memory₂ ≡ told
        unfolding told
        now_told = reads o memory₂ _ tells ∙ ap (tell (tree o) b) (reads o memory₁ _ holds)

        pub told_formed : Encodes o memory₂ (network_of o memory₂)
        told_formed = formed o memory₂ _ tells

        pub change_done : (memory₃ : List ℕ) →
            ((x : Message) (xs : List Message) → (network_of o memory₂).channel a b ≡ x ∷ xs → Encodes o memory₃ (with_channel (network_of o memory₂) a b xs)) →
            refusal_of o (network_of o memory) (Carry a b) ≡ None → Performed o memory (Carry a b) (Ok 0) memory₃
        unfolding tell
        change_done memory₃ takes allowed =
            let n = now_told in
            let s = carry_step_change o (network_of o memory) a b e p ps oldest change in
            let h = takes p ps (ap (λ u. u.channel a b) n ∙ told_channel) in
            done_performed o memory (Carry a b) 0 sound allowed memory₃
            (subst (Encodes o memory₃) (ap (λ u. with_channel u a b ps) n ∙ told_without ∙ sym s) h)
            (let d = ap (λ u. length u.deliveries) s in omega arith)
