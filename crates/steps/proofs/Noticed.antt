-- A notice is posted, or carried to a broker: the rules for it, and that the network in which it then arrives is, seen from the broker, the one that was
-- asked for room.
use Rattle.std.proofs.Common.{◌≡◌, ℕ, ◌+◌, ◌<◌, Bool, true, false, cond, not, ◌&&◌, eqb, ltb, leb, ◌⊎◌, List, [], ◌∷◌, length, get_or, take, Some, None, Ok, Option, sym, refl, ap, ◌∙◌, subst, inl, inr, arith, length-append}
use mathlib.Core.Path.{fun_ext}
use Rattle.std.proofs.lemmas.Bool.{both_ways, le-leb, cond-true, and_parts, and_from, or_cases, eqb-true, eq-eqb, ne_eqb}
use Rattle.filter.specs.Filter.{Notice}
use Rattle.filter.specs.declared.value.Notice.{Notice as Value}
use Rattle.broker.specs.Subscribers.{reached}
use Rattle.broker.specs.Forwarding.{wanting}
use Rattle.model.specs.Tree.{Tree, edge, has, neighbours, distinct}
use Rattle.model.specs.Model.{Message, notice, Network, at2, delivered, passed_on, arrive, with_posted, after, taken, react, allowed, effect, step, post, carry}
use Rattle.model.specs.Promise.{copy, copies}
use Rattle.model.proofs.Tree.{edge_apart, edge_within}
use Rattle.model.proofs.Cases.{step_carries}
use Rattle.model.proofs.Invariants.{distinct_length, arrived_few}
use Rattle.model.proofs.Right.{fresh_here}
use Rattle.layout.specs.Parts.{tree}
use Rattle.layout.specs.State.{network_of, Encodes}
use Rattle.layout.specs.Changed.{with_channel, with_numbers}
use Rattle.routing.specs.Reach.{Reaches}
use Rattle.routing.specs.Rooms.{first, when, full, no_room_to_pass, no_room_to_deliver}
use Rattle.steps.specs.Rules.{too_large, receiving, refusal_of}
use Rattle.steps.specs.Sound.{Sound, Performed}
use Rattle.layout.specs.declared.opening.Opening.{Opening}
use Rattle.routing.specs.declared.reach.Reach.{Reach}
use Rattle.layout.specs.declared.command.Command.TheVariants.{Post, Carry}
use Rattle.layout.specs.declared.refusal.Refusal.{Refusal}
use Rattle.layout.specs.declared.refusal.Refusal.TheVariants.{NoSuchBroker, NoticeUsed, TooManyNotices, TooManyDeliveries}
use Rattle.routing.proofs.Arrivals.{deliveries_many}
use Rattle.steps.proofs.Carrying.{first_within, beside_each, carry_refusal}
use Rattle.layout.proofs.Encoded.{reads}
use Rattle.steps.proofs.Performing.{done_performed}
use Rattle.layout.proofs.Written.{tree_length, tree_hung, edge_brokers}

-- the last rules: whether there is room for what the notice k from m brings to b
abbrev pub room_for : Opening → Network → (b m k : ℕ) → Notice → Option Refusal
room_for o s b m k e = first (no_room_to_pass o s b m k e ∷ no_room_to_deliver s b k e ∷ [])

-- seen from b the two networks are the same
pub record Alike (s u : Network) (b : ℕ) : Type 0 where
  pub subscribers : s.subscribers b ≡ u.subscribers b
  pub learned : s.learned b ≡ u.learned b
  pub channel : s.channel b ≡ u.channel b
  pub deliveries : s.deliveries ≡ u.deliveries

module _ (o : Opening) (s u : Network) (b m k : ℕ) (e : Notice) (h : Alike s u b) where
  pub room_alike : room_for o s b m k e ≡ room_for o u b m k e
  room_alike = λ i.
      first
      (full o.messages (h.channel i) (passed_on m k e (h.learned i)) (neighbours (tree o) b)
      ∷ when (not (leb (length (h.deliveries i) + length (delivered k e (h.subscribers i))) 65536)) (TooManyDeliveries 65536)
      ∷ [])

  pub reaches_alike : (r : Reach) → Reaches o s b m e r → Reaches o u b m e r
  reaches_alike r g =
      record {
        few = g.few;
        on =
            g.on
            ∙ ap (λ t. wanting (λ j. t (get_or (neighbours (tree o) b) j 0)) (neighbours (tree o) b) m e (length (neighbours (tree o) b))) h.learned;
        whom = g.whom ∙ ap (reached e) h.subscribers;
      }

-- a memory that holds such a network
pub alike_held : (o : Opening) (memory : List ℕ) (s u : Network) (b : ℕ) → Encodes o memory u → Alike s u b → Alike s (network_of o memory) b
alike_held o memory s u b e h = subst (λ v. Alike s v b) (sym (reads o memory u e)) h

-- what has arrived there
pub held_arrived : (o : Opening) (memory : List ℕ) (u : Network) (b : ℕ) → Encodes o memory u → length (u.arrived b) < 4096 → length ((network_of o memory).arrived b) < 4096
held_arrived o memory u b e l = subst (λ v. length (v.arrived b) < 4096) (sym (reads o memory u e)) l

-- with another number posted, or with a message to b taken off its channel
pub alike_posted : (s : Network) (b : ℕ) (ks : List ℕ) → Alike s (with_numbers s ks) b
alike_posted s b ks = record { subscribers = refl; learned = refl; channel = refl; deliveries = refl }

pub alike_taken : (o : Opening) (s : Network) (a b : ℕ) (ms : List Message) → edge (tree o) a b ≡ true → Alike s (with_channel s a b ms) b
alike_taken o s a b ms e =
    let t = ne_eqb b a (λ p. edge_apart (tree o) (tree_hung o) a b e (sym p)) in
    record { subscribers = refl; learned = refl; channel = fun_ext (λ n. sym (ap (λ v. cond (v && eqb n b) ms (s.channel b n)) t)); deliveries = refl }

-- the rules for a notice that is posted
module _ (o : Opening) (s : Network) (b k : ℕ) (v : Value) where
  pub post_too_large : (r : Refusal) → too_large 1 (k ∷ take o.ranges v.numbers) ≡ Some r → refusal_of o s (Post b k v) ≡ Some r
  unfolding refusal_of
  post_too_large r q = rw q refl

  pub post_nowhere : too_large 1 (k ∷ take o.ranges v.numbers) ≡ None → ltb b o.brokers ≡ false → refusal_of o s (Post b k v) ≡ Some (NoSuchBroker b)
  unfolding refusal_of
  post_nowhere q t = rw (q, t) refl

  pub post_used : too_large 1 (k ∷ take o.ranges v.numbers) ≡ None → ltb b o.brokers ≡ true → has s.posted k ≡ true →
      refusal_of o s (Post b k v) ≡ Some (NoticeUsed k)
  unfolding refusal_of
  post_used q t u = rw (q, t, u) refl

  pub post_full : too_large 1 (k ∷ take o.ranges v.numbers) ≡ None → ltb b o.brokers ≡ true → has s.posted k ≡ false → ltb (length s.posted) 4096 ≡ false →
      refusal_of o s (Post b k v) ≡ Some (TooManyNotices 4096)
  unfolding refusal_of
  post_full q t u f = rw (q, t, u, f) refl

  pub post_asks : too_large 1 (k ∷ take o.ranges v.numbers) ≡ None → ltb b o.brokers ≡ true → has s.posted k ≡ false → ltb (length s.posted) 4096 ≡ true →
      refusal_of o s (Post b k v) ≡ room_for o s b b k (take o.ranges v.numbers)
  unfolding refusal_of
  post_asks q t u f = rw (q, t, u, f) refl

step_posted : (o : Opening) (s : Network) (b k : ℕ) (e : Notice) → b < o.brokers → has s.posted k ≡ false →
    step (tree o) s (post b k e) ≡ arrive (tree o) b b k e (with_posted s k)
unfolding step allowed effect
step_posted o s b k e h new =
    let l = tree_length o in
    cond-true (leb b (length (tree o)) && not (has s.posted k)) (arrive (tree o) b b k e (with_posted s k)) s
    (and_from (leb b (length (tree o))) (not (has s.posted k)) (le-leb b (length (tree o)) (omega arith)) (ap not new))

-- how many deliveries there are after a notice arrived
arrive_many : (t : Tree) (b m k : ℕ) (e : Notice) (s : Network) → length (arrive t b m k e s).deliveries ≡ length s.deliveries + length (delivered k e (s.subscribers b))
unfolding arrive
arrive_many t b m k e s = length-append s.deliveries (delivered k e (s.subscribers b))

module _ (o : Opening) (memory : List ℕ) (sound : Sound o memory) where
  -- where there is room for a number more among those posted, there is among those that have arrived
  pub posted_room : (b : ℕ) → length (network_of o memory).posted < 4096 → length ((network_of o memory).arrived b) < 4096
  posted_room b l =
      let f = arrived_few (tree o) o.subscribers (network_of o memory) sound.invariant b in
      omega arith

  -- its number is noted in one memory, and in the last the notice has arrived
  pub posted_performed : (b k : ℕ) (v : Value) (reach : Reach) → b < o.brokers → Reaches o (network_of o memory) b b (take o.ranges v.numbers) reach →
      has (network_of o memory).posted k ≡ false → refusal_of o (network_of o memory) (Post b k v) ≡ None → (noted last : List ℕ) →
      Encodes o noted (with_numbers (network_of o memory) (k ∷ (network_of o memory).posted)) →
      Encodes o last (arrive (tree o) b b k (take o.ranges v.numbers) (network_of o noted)) → Performed o memory (Post b k v) (Ok reach.many) last
  posted_performed b k v reach there h new none noted last f g =
      let s = network_of o memory in
      let e = take o.ranges v.numbers in
      let p = step_posted o s b k e there new in
      let d = ap (λ u. length u.deliveries) p in
      let n = arrive_many (tree o) b b k e (with_posted s k) in
      let m = deliveries_many o s b b e reach there h k in
      done_performed o memory (Post b k v) reach.many sound none last (subst (Encodes o last) (ap (arrive (tree o) b b k e) (reads o noted _ f) ∙ sym p) g) (omega arith)

-- what stood at a place, written there again
at2_same : {A : Type 0} (f : ℕ → ℕ → A) (i j : ℕ) → at2 f i j (f i j) ≡ f
at2_same {A = A} f i j = fun_ext (λ k. fun_ext (λ l. go k l (eqb k i && eqb l j) refl))
  where
    go : (k l : ℕ) (t : Bool) → (eqb k i && eqb l j) ≡ t → cond t (f i j) (f k l) ≡ f k l
    go k l true p =
        let (x, y) = and_parts (eqb k i) (eqb l j) p in
        λ n. f (sym (eqb-true k i x) n) (sym (eqb-true l j y) n)
    go k l false p = refl

-- a notice is the oldest message from a to b
module _ (o : Opening) (s : Network) (a b : ℕ) (beside : edge (tree o) a b ≡ true) (k : ℕ) (e : Notice) (ms : List Message) (oldest : s.channel a b ≡ notice k e ∷ ms) where
  pub carry_asks : refusal_of o s (Carry a b) ≡ room_for o s b a k e
  unfolding receiving
  carry_asks = carry_refusal o s a b beside ∙ ap (receiving o s a b) oldest

  -- it changes no table
  taken_notice : taken s a b (notice k e) ms ≡ with_channel s a b ms
  unfolding after
  taken_notice = λ i.
      record {
        subscribers = s.subscribers;
        learned = at2_same s.learned b a i;
        announced = s.announced;
        channel = at2 s.channel a b ms;
        posted = s.posted;
        arrived = s.arrived;
        deliveries = s.deliveries;
      }

  carry_step : step (tree o) s (carry a b) ≡ arrive (tree o) b a k e (with_channel s a b ms)
  unfolding react
  carry_step =
      step_carries (tree o) s a b (notice k e) ms (first_within o s a b beside) (beside_each o s a b beside) oldest
      ∙ ap (arrive (tree o) b a k e) taken_notice

-- of a sound memory
module _ (o : Opening) (memory : List ℕ) (sound : Sound o memory) (a b : ℕ) (beside : edge (tree o) a b ≡ true) (k : ℕ) (e : Notice) (ms : List Message)
    (oldest : (network_of o memory).channel a b ≡ notice k e ∷ ms) where
  -- what has arrived somewhere was posted, and so was what is under way
  was_posted : (n c : ℕ) → has ((network_of o memory).arrived c) n ≡ true → has (network_of o memory).posted n ≡ true
  was_posted n c i = go (has (network_of o memory).posted n) refl
    where
      go : (t : Bool) → has (network_of o memory).posted n ≡ t → t ≡ true
      go true p = refl
      go false p = absurd (both_ways (has ((network_of o memory).arrived c) n) (sound.invariant.right.notices.unposted_arrived n p c) i)

  oldest_posted : has (network_of o memory).posted k ≡ true
  unfolding copies copy
  oldest_posted = go (has (network_of o memory).posted k) refl
    where
      go : (t : Bool) → has (network_of o memory).posted k ≡ t → t ≡ true
      go true p = refl
      go false p =
          let c = sym (ap (copies k) oldest) ∙ sound.invariant.right.notices.unposted_copies k p a b in
          let y = eq-eqb k k refl in
          absurd (grind arith)

  -- the notice has not arrived yet, and what has arrived was posted too: so there is room for it among those that have arrived
  pub carried_room : length ((network_of o memory).arrived b) < 4096
  unfolding distinct has
  carried_room =
      let s = network_of o memory in
      let new = fresh_here (tree o) (tree_hung o) s sound.invariant.right a b k e ms (edge_within (tree o) a b (tree_hung o) beside).0 beside oldest in
      let l = distinct_length (k ∷ s.arrived b) s.posted
      (and_from (not (has (s.arrived b) k)) (distinct (s.arrived b)) (ap not new) (sound.invariant.once_arrived b))
      (λ n i. both n (or_cases (eqb k n) (has (s.arrived b) n) i)) in
      let f = sound.formed.posted.fits in
      omega arith
    where
      both : (n : ℕ) → (eqb k n ≡ true) ⊎ (has ((network_of o memory).arrived b) n ≡ true) → has (network_of o memory).posted n ≡ true
      both n (inl i) = subst (λ m. has (network_of o memory).posted m ≡ true) (eqb-true k n i) oldest_posted
      both n (inr i) = was_posted n b i

  -- it is taken off the channel in one memory, and in the last it has arrived
  pub carried_performed : (reach : Reach) → Reaches o (network_of o memory) b a e reach → room_for o (network_of o memory) b a k e ≡ None → (off last : List ℕ) →
      Encodes o off (with_channel (network_of o memory) a b ms) → Encodes o last (arrive (tree o) b a k e (network_of o off)) → Performed o memory (Carry a b) (Ok reach.many) last
  carried_performed reach h none off last f g =
      let s = network_of o memory in
      let p = carry_step o s a b beside k e ms oldest in
      let d = ap (λ u. length u.deliveries) p in
      let n = arrive_many (tree o) b a k e (with_channel s a b ms) in
      let m = deliveries_many o s b a e reach (edge_brokers o a b beside).1 h k in
      done_performed o memory (Carry a b) reach.many sound (carry_asks o s a b beside k e ms oldest ∙ none) last
      (subst (Encodes o last) (ap (arrive (tree o) b a k e) (reads o off _ f) ∙ sym p) g) (omega arith)
