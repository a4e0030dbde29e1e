-- A subscriber comes or goes: the rules for it, and what the memory holds when the broker's part is written and when the broker has told.
use Rattle.std.proofs.Common.{◌≡◌, ℕ, suc, ◌+◌, ◌-◌, ◌*◌, ◌<◌, ◌≤◌, true, false, not, ◌&&◌, ltb, leb, List, [], ◌∷◌, length, take, IsErrAnd, Some, None, Ok, Option, Result, sym, refl, ap, ◌∙◌, subst, arith}
use borrow.Rule.Slice.PartMut.{put_mid}
use Rattle.std.specs.List.{between}
use Rattle.std.proofs.lemmas.Bool.{and_from, cond-true, le-leb}
use Rattle.filter.specs.Filter.{Filter as Ranges}
use Rattle.filter.specs.declared.value.Filter.{Filter}
use Rattle.broker.specs.Subscribers.{Subscriber, Holds, Shape}
use Rattle.broker.proofs.Part.{shape_held}
use Rattle.model.specs.Model.{Network, known, dropped, known_up_to, with_subscribers, tell, allowed, effect, step, join, leave}
use Rattle.model.specs.Promise.{brokers_behind}
use Rattle.model.proofs.Fit.{fits_now}
use Rattle.layout.specs.Plan.{size_of, start_of, many_of}
use Rattle.layout.specs.Parts.{tree, plan_of}
use Rattle.layout.specs.State.{network_of, Encodes}
use Rattle.routing.specs.Rooms.{no_room_to_tell}
use Rattle.steps.specs.Rules.{command_of, too_large, joined, refusal_of}
use Rattle.routing.specs.Around.{Ready}
use Rattle.steps.specs.Sound.{Sound, Performed}
use Rattle.layout.specs.declared.opening.Opening.{Opening}
use Rattle.layout.specs.declared.command.Command.{Command}
use Rattle.layout.specs.declared.command.Command.TheVariants.{Join, Leave}
use Rattle.layout.specs.declared.refusal.Refusal.{Refusal}
use Rattle.layout.specs.declared.refusal.Refusal.TheVariants.{NoSuchBroker, NumberUsed, NotSubscribed, BrokerFull}
use Rattle.routing.proofs.Room.{last_rule}
use Rattle.layout.proofs.Encoded.{reads, formed}
use Rattle.steps.proofs.Lent.{lent_subscribers}
use Rattle.steps.proofs.Performing.{refused_on, done_performed}
use Rattle.steps.proofs.Restored.{put_back}
use Rattle.layout.proofs.Sized.{subscribers_size}
use Rattle.layout.proofs.Spans.{subscribers_few}
use Rattle.layout.proofs.Written.{lent, tree_length, tree_hung, put_subscribers}

-- the rules for a subscriber that comes
module _ (o : Opening) (s : Network) (b n : ℕ) (f : Filter) where
  pub join_too_large : (e : Refusal) → too_large 1 (n ∷ take (2 * o.ranges) f.bounds) ≡ Some e → refusal_of o s (Join b n f) ≡ Some e
  unfolding refusal_of
  join_too_large e q = rw q refl

  pub join_nowhere : too_large 1 (n ∷ take (2 * o.ranges) f.bounds) ≡ None → ltb b o.brokers ≡ false → refusal_of o s (Join b n f) ≡ Some (NoSuchBroker b)
  unfolding refusal_of
  join_nowhere q t = rw (q, t) refl

  pub join_used : too_large 1 (n ∷ take (2 * o.ranges) f.bounds) ≡ None → ltb b o.brokers ≡ true → known_up_to n s.subscribers (o.brokers - 1) ≡ true →
      refusal_of o s (Join b n f) ≡ Some (NumberUsed n)
  unfolding refusal_of
  join_used q t k = rw (q, t, k) refl

  pub join_full : too_large 1 (n ∷ take (2 * o.ranges) f.bounds) ≡ None → ltb b o.brokers ≡ true → known_up_to n s.subscribers (o.brokers - 1) ≡ false →
      ltb (length (s.subscribers b)) o.subscribers ≡ false → refusal_of o s (Join b n f) ≡ Some (BrokerFull o.subscribers)
  unfolding refusal_of
  join_full q t k r = rw (q, t, k, r) refl

  pub join_tells : too_large 1 (n ∷ take (2 * o.ranges) f.bounds) ≡ None → ltb b o.brokers ≡ true → known_up_to n s.subscribers (o.brokers - 1) ≡ false →
      ltb (length (s.subscribers b)) o.subscribers ≡ true →
      refusal_of o s (Join b n f) ≡ no_room_to_tell o (with_subscribers s b (joined s b n (take (2 * o.ranges) f.bounds))) b
  unfolding refusal_of
  join_tells q t k r = rw (q, t, k, r) (last_rule (no_room_to_tell o (with_subscribers s b (joined s b n (take (2 * o.ranges) f.bounds))) b))

-- the rules for one that goes
module _ (o : Opening) (s : Network) (b n : ℕ) where
  pub leave_too_large : (e : Refusal) → too_large 1 (n ∷ []) ≡ Some e → refusal_of o s (Leave b n) ≡ Some e
  unfolding refusal_of
  leave_too_large e q = rw q refl

  pub leave_nowhere : too_large 1 (n ∷ []) ≡ None → ltb b o.brokers ≡ false → refusal_of o s (Leave b n) ≡ Some (NoSuchBroker b)
  unfolding refusal_of
  leave_nowhere q t = rw (q, t) refl

  pub leave_absent : too_large 1 (n ∷ []) ≡ None → ltb b o.brokers ≡ true → known n (s.subscribers b) ≡ false → refusal_of o s (Leave b n) ≡ Some (NotSubscribed n)
  unfolding refusal_of
  leave_absent q t k = rw (q, t, k) refl

  pub leave_tells : too_large 1 (n ∷ []) ≡ None → ltb b o.brokers ≡ true → known n (s.subscribers b) ≡ true →
      refusal_of o s (Leave b n) ≡ no_room_to_tell o (with_subscribers s b (dropped n (s.subscribers b))) b
  unfolding refusal_of
  leave_tells q t k = rw (q, t, k) (last_rule (no_room_to_tell o (with_subscribers s b (dropped n (s.subscribers b))) b))

-- a broker that there is is one of the tree
in_tree : (o : Opening) (b : ℕ) → b < o.brokers → leb b (length (tree o)) ≡ true
in_tree o b h =
    let l = tree_length o in
    le-leb b (length (tree o)) (omega arith)

-- the model's step where the rules before the last do not apply
pub step_joined : (o : Opening) (s : Network) (b n : ℕ) (f : Ranges) → b < o.brokers → known_up_to n s.subscribers (o.brokers - 1) ≡ false →
    step (tree o) s (join b n f) ≡ tell (tree o) b (with_subscribers s b (joined s b n f))
unfolding step allowed effect
step_joined o s b n f h k =
    cond-true (leb b (length (tree o)) && not (known_up_to n s.subscribers (length (tree o)))) (tell (tree o) b (with_subscribers s b (joined s b n f))) s
    (and_from (leb b (length (tree o))) (not (known_up_to n s.subscribers (length (tree o)))) (in_tree o b h) (ap not (ap (known_up_to n s.subscribers) (tree_length o) ∙ k)))

pub step_left : (o : Opening) (s : Network) (b n : ℕ) → b < o.brokers → known n (s.subscribers b) ≡ true →
    step (tree o) s (leave b n) ≡ tell (tree o) b (with_subscribers s b (dropped n (s.subscribers b)))
unfolding step allowed effect
step_left o s b n h k =
    cond-true (leb b (length (tree o)) && known n (s.subscribers b)) (tell (tree o) b (with_subscribers s b (dropped n (s.subscribers b)))) s
    (and_from (leb b (length (tree o))) (known n (s.subscribers b)) (in_tree o b h) k)

-- the part of a broker's subscribers, in a sound memory
module _ (o : Opening) (memory : List ℕ) (h : Sound o memory) (b at stop : ℕ) (there : b < o.brokers) (starts : at ≡ start_of (plan_of o) 0 b) (stops : stop ≡ start_of (plan_of o) 0 b + size_of (plan_of o) 0) where
  pub standing_shape : Shape o.subscribers o.ranges (between at stop memory)
  standing_shape = shape_held o.subscribers o.ranges ((network_of o memory).subscribers b) (between at stop memory) (lent_subscribers o memory h.formed b at stop there starts stops)

  pub standing_small : length (between at stop memory) ≤ 15601
  standing_small =
      let l = standing_shape.0 in
      let f = subscribers_few o in
      omega arith

  -- the part is written, and holds other subscribers
  module _ (rs : List Subscriber) (new : List ℕ) (holds : Holds o.subscribers o.ranges rs new) where
    pub others_stand : Encodes o (put_mid at (stop - at) memory new) (with_subscribers (network_of o memory) b rs)
    others_stand = subst (λ m. Encodes o m (with_subscribers (network_of o memory) b rs)) (sym (lent (plan_of o) 0 b at stop memory new starts stops)) (put_subscribers o memory (network_of o memory) h.formed b there rs new holds)

    now_is : network_of o (put_mid at (stop - at) memory new) ≡ with_subscribers (network_of o memory) b rs
    now_is = reads o (put_mid at (stop - at) memory new) (with_subscribers (network_of o memory) b rs) others_stand

    pub ready_to_tell : Ready o (put_mid at (stop - at) memory new) b
    ready_to_tell =
        record {
          there = there;
          formed = formed o (put_mid at (stop - at) memory new) (with_subscribers (network_of o memory) b rs) others_stand;
          bounded = λ n e.
              subst (λ u. length (u.learned b n) ≤ suc o.subscribers * brokers_behind (tree o) b n) (sym now_is)
              (fits_now (tree o) (tree_hung o) o.subscribers (network_of o memory) h.invariant.fits b n e);
        }

    module _ (d : Command) (rule : refusal_of o (network_of o memory) d ≡ no_room_to_tell o (with_subscribers (network_of o memory) b rs) b) where
      -- the rule for telling is asked of the memory as it is written
      asked : (v : Option Refusal) → no_room_to_tell o (network_of o (put_mid at (stop - at) memory new)) b ≡ v → refusal_of o (network_of o memory) d ≡ v
      asked v q = rule ∙ sym (ap (λ s. no_room_to_tell o s b) now_is) ∙ q

      -- the broker has told
      pub told_performed : step (tree o) (network_of o memory) (command_of o d) ≡ tell (tree o) b (with_subscribers (network_of o memory) b rs) →
          no_room_to_tell o (network_of o (put_mid at (stop - at) memory new)) b ≡ None →
          (memory₁ : List ℕ) → Encodes o memory₁ (tell (tree o) b (network_of o (put_mid at (stop - at) memory new))) → Performed o memory d (Ok 0) memory₁
      unfolding tell
      told_performed does q memory₁ tells =
          done_performed o memory d 0 h (asked None q) memory₁ (subst (Encodes o memory₁) (ap (tell (tree o) b) now_is ∙ sym does) tells)
          (let l = ap (λ s. length s.deliveries) does in omega arith)

      -- there was no room to tell, and the part is put back
      pub back_performed : (e : Refusal) → no_room_to_tell o (network_of o (put_mid at (stop - at) memory new)) b ≡ Some e →
          (saved : List ℕ) → saved ≡ between at stop memory →
          (memory₁ : List ℕ) → memory₁ ≡ put_mid at (stop - at) (put_mid at (stop - at) memory new) saved → (r : Result ℕ Refusal) → IsErrAnd r (λ y. y ≡ e) → Performed o memory d r memory₁
      unfolding many_of
      back_performed e q saved kept memory₁ back r handed =
          let long : length new ≡ size_of (plan_of o) 0 = (shape_held o.subscribers o.ranges rs new holds).0 ∙ sym (subscribers_size o) in
          refused_on o memory d e h (asked (Some e) q) memory₁
          (back ∙ ap (put_mid at (stop - at) (put_mid at (stop - at) memory new)) kept ∙ put_back o memory 0 b at stop h.formed.whole there starts stops new long) r handed
