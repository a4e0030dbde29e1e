-- Carrying alone comes to an end: each message made stands on a channel of smaller rank than the one that was carried.
use Rattle.std.proofs.Common.{◌≡◌, ℕ, zero, suc, ◌+◌, ◌*◌, ◌<◌, ◌≤◌, Bool, true, false, cond, not, ◌&&◌, eqb, ◌⊎◌, List, [], ◌∷◌, ◌++◌, length, sym, refl, ap, ◌∙◌, inl, inr, mul-le-mul_right, add-mul, mul-le-mul, mul-le-mul_left, zero-mul, arith, length-append}
use Rattle.std.proofs.lemmas.Bool.{eqb-true, eqb-false, eq-eqb, ne_eqb, cases_eq}
use Rattle.filter.specs.Filter.{Filter, Notice}
use Rattle.cover.specs.Maximal.{minus, maximal, any_matches}
use Rattle.cover.proofs.Members.{length_minus}
use Rattle.cover.proofs.Changes.{minus_part}
use Rattle.model.specs.Tree.{Tree, hangs, has, edge, neighbours, rank}
use Rattle.model.specs.Model.{Subscriber, Message, add, cut, notice, after, Network, filters_of, adds, cuts, batch, from_others, to_announce, announcement, tell, arrive, passed_on, taken, react, dropped, Command, carry, step, end, empty, Quiet}
use Rattle.model.specs.Promise.{brokers_behind, total, Throughout}
use Rattle.model.specs.Promises.{reached, Carrying, done, more, Rest}
use Rattle.model.specs.Invariant.{Tables, Right, short, bound, Fits, Few}
use Rattle.model.proofs.Tree.{edge_sym, edge_within, neighbours_edge, rank_falls}
use Rattle.model.proofs.Sums.{total_same, total_but, total_plus, total_zero}
use Rattle.model.proofs.Cases.{by_cases, step_carries}
use Rattle.model.proofs.Tables.{empty_tables}
use Rattle.model.proofs.Behind.{behind_fewer}
use Rattle.model.proofs.Lasting.{taken_lasts}
use Rattle.model.proofs.Fit.{step_fits, end_fits, empty_fits, announcement_short}
use Rattle.model.proofs.Right.{step_right, right}
use Rattle.model.proofs.Throughout.{throughout_end}

-- the weight of a message by the rank of its channel: more than of all that at most C messages of lower rank weigh
unfoldable weight : ℕ → ℕ → ℕ
weight C zero = 1
weight C (suc r) = suc (C * weight C r)

total_const : (f : ℕ → ℕ) (n k : ℕ) → ((i : ℕ) → i < n → f i ≤ k) → total f n ≤ n * k
unfolding total
total_const f zero k h = omega arith
total_const f (suc n) k h =
    let r = total_const f n k (λ i l. h i (omega arith)) in
    let j = h n (omega arith) in
    omega arith

weight_up : (C : ℕ) (q r : ℕ) → q ≤ r → 1 ≤ C → weight C q ≤ weight C r
unfolding weight
weight_up C zero zero l h = omega arith
weight_up C zero (suc r) l h = omega arith
weight_up C (suc q) zero l h = absurd (omega arith)
weight_up C (suc q) (suc r) l h =
    let i = weight_up C q r (omega arith) h in
    let m = mul-le-mul_left C i in
    omega arith

length_adds : (fs : List Filter) → length (adds fs) ≡ length fs
unfolding adds
length_adds [] = refl
length_adds (f ∷ fs) = ap suc (length_adds fs)

length_cuts : (fs : List Filter) → length (cuts fs) ≡ length fs
unfolding cuts
length_cuts [] = refl
length_cuts (f ∷ fs) = ap suc (length_cuts fs)

length_batch : (old new : List Filter) → length (batch old new) ≤ length old + length new
unfolding batch
length_batch old new =
    let a = length-append (adds (minus new old)) (cuts (minus old new)) in
    let p = length_adds (minus new old) in
    let q = length_cuts (minus old new) in
    let x = length_minus new old in
    let y = length_minus old new in
    omega arith

-- nothing new, nothing to say
batch_same : (fs : List Filter) → batch fs fs ≡ []
unfolding batch adds cuts
batch_same fs = rw (minus_part fs fs (λ f h. h)) refl

-- what is learned from n is not told to n
from_others_blind :
    (table other : ℕ → List Filter) (n : ℕ) (ns : List ℕ) → ((m : ℕ) → (m ≡ n → ⊥) → table m ≡ other m) → from_others table n ns ≡ from_others other n ns
unfolding from_others
from_others_blind table other n [] h = refl
from_others_blind table other n (m ∷ ns) h = go (eqb m n) refl (from_others_blind table other n ns h)
  where
    go :
        (v : Bool) → eqb m n ≡ v → from_others table n ns ≡ from_others other n ns →
        cond v (from_others table n ns) (table m ++ from_others table n ns) ≡ cond v (from_others other n ns) (other m ++ from_others other n ns)
    go true q r = r
    go false q r =
        let i = h m (eqb-false m n q) in
        cc

one_less :
    (new old row_new row_old l k n w : ℕ) → l ≡ suc n → k ≡ n → row_new + l * w ≡ row_old + k * w → new + row_old ≡ old + row_new → new + w ≡ old
one_less new old row_new row_old l k n w p q c r =
    let c' : row_new + suc n * w ≡ row_old + n * w = rw (p, q) at c in
    omega arith

module _ (t : Tree) (C : ℕ) where
  row : (ℕ → ℕ → List Message) → ℕ → ℕ
  row channel x = total (λ n. length (channel x n) * weight C (rank t x n)) (suc (length t))

  -- what is under way, by weight
  measure : (ℕ → ℕ → List Message) → ℕ
  measure channel = total (row channel) (suc (length t))

  taken_measure :
      (s : Network) (a b : ℕ) (m : Message) (ms : List Message) → a ≤ length t → b ≤ length t → s.channel a b ≡ m ∷ ms →
      measure (taken s a b m ms).channel + weight C (rank t a b) ≡ measure s.channel
  unfolding measure row
  taken_measure s a b m ms ha hb q =
      let c =
      total_but
      (λ n. length (u a n) * weight C (rank t a n))
      (λ n. length (s.channel a n) * weight C (rank t a n))
      (suc (length t))
      b
      (omega arith)
      (λ n l ne. ap (λ v. length (cond (eqb a a && v) ms (s.channel a n)) * weight C (rank t a n)) (ne_eqb n b ne) ∙ other n) in
      let r =
      total_but
      (row u)
      (row s.channel)
      (suc (length t))
      a
      (omega arith)
      (λ x l ne. total_same _ _ (suc (length t)) (λ n k. ap (λ v. length (cond (v && eqb n b) ms (s.channel x n)) * weight C (rank t x n)) (ne_eqb x a ne))) in
      let here : length (u a b) ≡ length ms = ap (λ v. length (cond v ms (s.channel a b))) both in
      let was : length (s.channel a b) ≡ suc (length ms) = ap length q in
      one_less (measure u) (measure s.channel) (row u a) (row s.channel a) (length (s.channel a b)) (length (u a b)) (length ms) (weight C (rank t a b)) was here c r
    where
      u : ℕ → ℕ → List Message
      u x n = cond (eqb x a && eqb n b) ms (s.channel x n)

      both : (eqb a a && eqb b b) ≡ true
      both = rw (eq-eqb a a refl, eq-eqb b b refl)

      other : (n : ℕ) → length (cond (eqb a a && false) ms (s.channel a n)) * weight C (rank t a n) ≡ length (s.channel a n) * weight C (rank t a n)
      other n = ap (λ v. length (cond (v && false) ms (s.channel a n)) * weight C (rank t a n)) (eq-eqb a a refl)

  -- broker b puts so many messages on its channels
  send_measure :
      (old new : ℕ → ℕ → List Message) (b : ℕ) (added : ℕ → ℕ) → b ≤ length t → ((x n : ℕ) → (x ≡ b → ⊥) → length (new x n) ≡ length (old x n)) →
      ((n : ℕ) → length (new b n) ≡ length (old b n) + added n) →
      measure new ≡ measure old + total (λ n. added n * weight C (rank t b n)) (suc (length t))
  unfolding measure row
  send_measure old new b added hb others here =
      let r =
      total_but
      (row new)
      (row old)
      (suc (length t))
      b
      (omega arith)
      (λ x l ne. total_same _ _ (suc (length t)) (λ n k. ap (λ v. v * weight C (rank t x n)) (others x n ne))) in
      let c : row new b ≡ total (λ n. length (old b n) * weight C (rank t b n) + added n * weight C (rank t b n)) (suc (length t)) =
      total_same _ _ (suc (length t)) (λ n k. ap (λ v. v * weight C (rank t b n)) (here n) ∙ add-mul (length (old b n)) (added n) (weight C (rank t b n))) in
      let p = total_plus (λ n. length (old b n) * weight C (rank t b n)) (λ n. added n * weight C (rank t b n)) (suc (length t)) in
      omega arith

  -- a few messages of lower rank weigh less than one
  few_lower :
      (D : ℕ) (r b : ℕ) (added : ℕ → ℕ) → suc (length t) * D ≤ C → 1 ≤ C → ((n : ℕ) → n ≤ length t → (added n ≡ 0) ⊎ ((added n ≤ D) × (rank t b n < r))) →
      total (λ n. added n * weight C (rank t b n)) (suc (length t)) < weight C r
  unfolding weight
  few_lower D zero b added big pos h =
      let z = total_zero (λ n. added n * weight C (rank t b n)) (suc (length t)) (λ n l. none n (h n (omega arith))) in
      omega arith
    where
      none : (n : ℕ) → (added n ≡ 0) ⊎ ((added n ≤ D) × (rank t b n < 0)) → added n * weight C (rank t b n) ≡ 0
      none n (inl z) = ap (λ v. v * weight C (rank t b n)) z ∙ zero-mul (weight C (rank t b n))
      none n (inr (l, k)) = absurd (omega arith)
  few_lower D (suc q) b added big pos h =
      let z = total_const (λ n. added n * weight C (rank t b n)) (suc (length t)) (D * weight C q) (λ n l. each n (h n (omega arith))) in
      let y = mul-le-mul_right (weight C q) big in
      omega arith
    where
      each : (n : ℕ) → (added n ≡ 0) ⊎ ((added n ≤ D) × (rank t b n < suc q)) → added n * weight C (rank t b n) ≤ D * weight C q
      each n (inl z) =
          let y : added n * weight C (rank t b n) ≡ 0 = ap (λ v. v * weight C (rank t b n)) z ∙ zero-mul (weight C (rank t b n)) in
          omega arith
      each n (inr (l, k)) = mul-le-mul l (weight_up C (rank t b n) q (omega arith) pos)

-- a network as commands lead to, with at most R subscribers a broker
record Sound (t : Tree) (hung : hangs t ≡ true) (R : ℕ) (s : Network) : Type 0 where
  sound : Right t s
  fits : Fits t R s
  few : Few t R s

module _ (t : Tree) (hung : hangs t ≡ true) (R : ℕ) where
  -- the most messages that one arrival puts on one channel, and on all
  D : ℕ
  D = suc (suc R * length t + suc R * length t)

  C : ℕ
  C = suc (length t) * D

  CBig : (1 ≤ C) × (suc (length t) * D ≤ C)
  unfolding C D
  CBig = (omega arith, omega arith)

  table_most : (b n : ℕ) → edge t b n ≡ true → suc R * brokers_behind t n b ≤ suc R * length t
  table_most b n e = mul-le-mul_left (suc R) (behind_fewer t hung n b (edge_sym t n b ∙ e))

  module _
      (s : Network) (h : Sound t hung R s) (a b : ℕ) (ha : a ≤ length t) (e : edge t a b ≡ true) (m : Message) (ms : List Message)
      (q : s.channel a b ≡ m ∷ ms)
    where
      taken_sound : Fits t R (taken s a b m ms)
      unfolding Fits
      taken_sound x n i = taken_lasts (short (bound t R x n)) n x s a b m ms q (h.fits x n i)

      taken_few : Few t R (taken s a b m ms)
      unfolding Few
      taken_few = h.few

      -- what b learns from a it does not tell a
      untold : announcement t (taken s a b m ms) b a ≡ s.announced b a
      unfolding to_announce
      untold =
          ap (λ fs. maximal (filters_of (s.subscribers b) ++ fs)) (from_others_blind ((taken s a b m ms).learned b) (s.learned b) a (neighbours t b) same)
          ∙ sym (h.sound.tables.announces b a (edge_sym t b a ∙ e))
        where
          same : (l : ℕ) → (l ≡ a → ⊥) → (taken s a b m ms).learned b l ≡ s.learned b l
          same l ne = go (eqb b b) (eqb l a) (ne_eqb l a ne)
            where
              go : (v w : Bool) → w ≡ false → cond (v && w) (after m (s.learned b a)) (s.learned b l) ≡ s.learned b l
              go true true z = grind arith
              go true false z = refl
              go false w z = refl

      told_lengths : (n : ℕ) → edge t b n ≡ true → length (batch (s.announced b n) (announcement t (taken s a b m ms) b n)) ≤ D
      unfolding D
      told_lengths n i =
          let l = length_batch (s.announced b n) (announcement t (taken s a b m ms) b n) in
          let x = announcement_short t hung R s h.fits h.few b n i in
          let y = announcement_short t hung R (taken s a b m ms) taken_sound taken_few b n i in
          let z = ap length (h.sound.tables.announces b n i) in
          let w = table_most b n i in
          omega arith

      hb : b ≤ length t
      hb = (edge_within t a b hung e).1

      falls :
          (out : ℕ → List Message) (new : ℕ → ℕ → List Message) →
          ((x n : ℕ) → (x ≡ b → ⊥) → length (new x n) ≡ length ((taken s a b m ms).channel x n)) →
          ((n : ℕ) → length (new b n) ≡ length ((taken s a b m ms).channel b n) + cond (has (neighbours t b) n) (length (out n)) 0) →
          (out a ≡ []) → ((n : ℕ) → edge t b n ≡ true → length (out n) ≤ D) → measure t C new < measure t C s.channel
      falls out new others here back most =
          let x = send_measure t C (taken s a b m ms).channel new b (λ n. cond (has (neighbours t b) n) (length (out n)) 0) hb others here in
          let y = taken_measure t C s a b m ms ha hb q in
          let z =
          few_lower t C D (rank t a b) b (λ n. cond (has (neighbours t b) n) (length (out n)) 0) CBig.1 CBig.0
          (λ n l. each n (has (neighbours t b) n) refl (cases_eq n a)) in
          omega arith
        where
          each :
              (n : ℕ) (v : Bool) → has (neighbours t b) n ≡ v → (n ≡ a) ⊎ (n ≡ a → ⊥) →
              (cond v (length (out n)) 0 ≡ 0) ⊎ ((cond v (length (out n)) 0 ≤ D) × (rank t b n < rank t a b))
          each n true i (inl j) = inl (ap length (ap out j ∙ back))
          each n true i (inr ne) =
              let f = sym (neighbours_edge t b n hb) ∙ i in
              inr (most n f, rank_falls t a b n hung e f ne)
          each n false i j = inl refl

      not_back : (k : ℕ) (x : Notice) (table : ℕ → List Filter) → passed_on a k x table a ≡ []
      unfolding passed_on
      not_back k x table = rw (eq-eqb a a refl)

      at_most_one_copy : (k : ℕ) (x : Notice) (table : ℕ → List Filter) (n : ℕ) → length (passed_on a k x table n) ≤ D
      unfolding passed_on D
      at_most_one_copy k x table n = go (not (eqb n a) && any_matches (table n) x)
        where
          go : (v : Bool) → length (cond v (notice k x ∷ []) []) ≤ suc (suc R * length t + suc R * length t)
          go true = omega arith
          go false = omega arith

      tell_falls : measure t C (tell t b (taken s a b m ms)).channel < measure t C s.channel
      unfolding tell
      tell_falls =
          falls
          (λ n. batch (s.announced b n) (announcement t u b n))
          (tell t b u).channel
          (λ x n ne. elsewhere x n (eqb x b) (ne_eqb x b ne))
          (λ n. here n (eqb b b) (eq-eqb b b refl) (has (neighbours t b) n))
          (ap (batch (s.announced b a)) untold ∙ batch_same (s.announced b a))
          told_lengths
        where
          u : Network
          u = taken s a b m ms

          elsewhere :
              (x n : ℕ) (v : Bool) → v ≡ false →
              length (cond (v && has (neighbours t b) n) (u.channel x n ++ batch (s.announced b n) (announcement t u b n)) (u.channel x n)) ≡ length (u.channel x n)
          elsewhere x n true z = grind arith
          elsewhere x n false z = refl

          here :
              (n : ℕ) (v : Bool) → v ≡ true → (w : Bool) →
              length (cond (v && w) (u.channel b n ++ batch (s.announced b n) (announcement t u b n)) (u.channel b n))
              ≡ length (u.channel b n) + cond w (length (batch (s.announced b n) (announcement t u b n))) 0
          here n true z true = length-append (u.channel b n) (batch (s.announced b n) (announcement t u b n))
          here n true z false = omega arith
          here n false z w = grind arith

      arrive_falls : (k : ℕ) (x : Notice) → measure t C (arrive t b a k x (taken s a b m ms)).channel < measure t C s.channel
      unfolding arrive
      arrive_falls k x =
          falls
          (passed_on a k x (u.learned b))
          (arrive t b a k x u).channel
          (λ y n ne. elsewhere y n (eqb y b) (ne_eqb y b ne))
          (λ n. here n (eqb b b) (eq-eqb b b refl) (has (neighbours t b) n))
          (not_back k x (u.learned b))
          (λ n i. at_most_one_copy k x (u.learned b) n)
        where
          u : Network
          u = taken s a b m ms

          elsewhere :
              (y n : ℕ) (v : Bool) → v ≡ false →
              length (cond (v && has (neighbours t b) n) (u.channel y n ++ passed_on a k x (u.learned b) n) (u.channel y n)) ≡ length (u.channel y n)
          elsewhere y n true z = grind arith
          elsewhere y n false z = refl

          here :
              (n : ℕ) (v : Bool) → v ≡ true → (w : Bool) →
              length (cond (v && w) (u.channel b n ++ passed_on a k x (u.learned b) n) (u.channel b n))
              ≡ length (u.channel b n) + cond w (length (passed_on a k x (u.learned b) n)) 0
          here n true z true = length-append (u.channel b n) (passed_on a k x (u.learned b) n)
          here n true z false = omega arith
          here n false z w = grind arith

  react_falls :
      (s : Network) (h : Sound t hung R s) (a b : ℕ) (ha : a ≤ length t) (e : edge t a b ≡ true) (m : Message) (ms : List Message) (q : s.channel a b ≡ m ∷ ms) →
      measure t C (react t a b m (taken s a b m ms)).channel < measure t C s.channel
  unfolding react
  react_falls s h a b ha e (add f) ms q = tell_falls s h a b ha e (add f) ms q
  react_falls s h a b ha e (cut f) ms q = tell_falls s h a b ha e (cut f) ms q
  react_falls s h a b ha e (notice k x) ms q = arrive_falls s h a b ha e (notice k x) ms q k x

  react_few : (a b : ℕ) (m : Message) (u : Network) → Few t R u → Few t R (react t a b m u)
  unfolding react Few tell arrive
  react_few a b (add f) u h = h
  react_few a b (cut f) u h = h
  react_few a b (notice k x) u h = h

  carry_sound :
      (s : Network) → Sound t hung R s → (a b : ℕ) → a ≤ length t → has (neighbours t a) b ≡ true → (m : Message) (ms : List Message) → s.channel a b ≡ m ∷ ms →
      Sound t hung R (step t s (carry a b)) × (measure t C (step t s (carry a b)).channel < measure t C s.channel)
  carry_sound s h a b ha beside m ms q =
      let i = step_carries t s a b m ms ha beside q in
      let e = sym (neighbours_edge t a b ha) ∙ beside in
      let k : Few t R (step t s (carry a b)) = rw i (react_few a b m (taken s a b m ms) (taken_few s h a b ha e m ms q)) in (
        record {
          sound = step_right t hung s (carry a b) h.sound;
          fits = step_fits t hung R s h.sound.tables h.fits h.few (carry a b) k;
          few = k;
        },
        rw i (react_falls s h a b ha e m ms q),
      )

  bounded : {s : Network} {es : List Command} → Carrying t s es → Sound t hung R s → length es ≤ measure t C s.channel
  bounded done h = omega arith
  bounded {s} (more {a = a} {b = b} {m = m} {ms = ms} ha beside q rest) h =
      let (k, l) = carry_sound s h a b ha beside m ms q in
      let r = bounded rest k in
      omega arith

  stuck : (s : Network) → Tables t s → ((a b : ℕ) → a ≤ length t → has (neighbours t a) b ≡ true → s.channel a b ≡ []) → Quiet t s
  unfolding Quiet
  stuck s h none a b ha hb = go (edge t a b) refl
    where
      go : (v : Bool) → edge t a b ≡ v → s.channel a b ≡ []
      go true i = none a b ha (neighbours_edge t a b ha ∙ i)
      go false i = h.only_beside a b i

  -- some message is under way, or none
  Busy : (ℕ → ℕ → List Message) → Type 0
  Busy channel = (a : ℕ) × (b : ℕ) × (m : Message) × (ms : List Message) × (a ≤ length t) × (b ≤ length t) × (channel a b ≡ m ∷ ms)

  busy_row : (channel : ℕ → ℕ → List Message) (a : ℕ) → a ≤ length t → (k : ℕ) → k ≤ suc (length t) → ((b : ℕ) → b < k → channel a b ≡ []) ⊎ Busy channel
  unfolding Busy
  busy_row channel a ha zero hk = inl (λ b l. absurd (omega arith))
  busy_row channel a ha (suc k) hk = go (busy_row channel a ha k (omega arith)) (channel a k) refl
    where
      go : ((b : ℕ) → b < k → channel a b ≡ []) ⊎ Busy channel → (ms : List Message) → channel a k ≡ ms → ((b : ℕ) → b < suc k → channel a b ≡ []) ⊎ Busy channel
      go (inr f) ms q = inr f
      go (inl r) (m ∷ ms) q = inr (a, k, m, ms, ha, (omega arith), q)
      go (inl r) [] q = inl (λ b l. at b l (cases_eq b k))
        where
          at : (b : ℕ) → b < suc k → (b ≡ k) ⊎ (b ≡ k → ⊥) → channel a b ≡ []
          at b l (inl i) = rw i q
          at b l (inr ne) = r b (omega arith)

  busy_all :
      (channel : ℕ → ℕ → List Message) (k : ℕ) → k ≤ suc (length t) → ((a b : ℕ) → a < k → b ≤ length t → channel a b ≡ []) ⊎ Busy channel
  busy_all channel zero hk = inl (λ a b l i. absurd (omega arith))
  busy_all channel (suc k) hk = go (busy_all channel k (omega arith)) (busy_row channel k (omega arith) (suc (length t)) (omega arith))
    where
      go :
          ((a b : ℕ) → a < k → b ≤ length t → channel a b ≡ []) ⊎ Busy channel → ((b : ℕ) → b < suc (length t) → channel k b ≡ []) ⊎ Busy channel →
          ((a b : ℕ) → a < suc k → b ≤ length t → channel a b ≡ []) ⊎ Busy channel
      go (inr f) r = inr f
      go (inl r) (inr f) = inr f
      go (inl r) (inl f) = inl (λ a b l i. at a b l i (cases_eq a k))
        where
          at : (a b : ℕ) → a < suc k → b ≤ length t → (a ≡ k) ⊎ (a ≡ k → ⊥) → channel a b ≡ []
          at a b l i (inl j) = rw j (f b (omega arith))
          at a b l i (inr ne) = r a b (omega arith) i

  reaches : (fuel : ℕ) (s : Network) → Sound t hung R s → measure t C s.channel < fuel → (es : List Command) × Carrying t s es × Quiet t (end t s es)
  unfolding Quiet end Busy
  reaches zero s h l = absurd (omega arith)
  reaches (suc fuel) s h l = go (busy_all s.channel (suc (length t)) (omega arith)) (reaches fuel)
    where
      go :
          ((a b : ℕ) → a < suc (length t) → b ≤ length t → s.channel a b ≡ []) ⊎ Busy s.channel →
          ((u : Network) → Sound t hung R u → measure t C u.channel < fuel → (es : List Command) × Carrying t u es × Quiet t (end t u es)) →
          (es : List Command) × Carrying t s es × Quiet t (end t s es)
      go (inl none) r = ([], done, (λ a b ha hb. none a b (omega arith) hb))
      go (inr (a, b, m, ms, ha, hb, q)) r =
          let beside = is_beside a b m ms ha q (edge t a b) refl in
          let (k, f) = carry_sound s h a b ha beside m ms q in
          let (es, c, quiet) = r (step t s (carry a b)) k (omega arith) in
          (carry a b ∷ es, more ha beside q c, quiet)
        where
          is_beside : (a b : ℕ) (m : Message) (ms : List Message) → a ≤ length t → s.channel a b ≡ m ∷ ms → (v : Bool) → edge t a b ≡ v → has (neighbours t a) b ≡ true
          is_beside a b m ms ha q true i = neighbours_edge t a b ha ∙ i
          is_beside a b m ms ha q false i =
              let z = h.sound.tables.only_beside a b i in
              let y : ◌≡◌ {A = ℕ} 0 1 = (let w = ap (length {A = Message}) (sym z ∙ q) in absurd (omega arith)) in
              absurd (omega arith)

length_dropped : (n : ℕ) (rs : List Subscriber) → length (dropped n rs) ≤ length rs
unfolding dropped
length_dropped n [] = omega arith
length_dropped n (r ∷ rs) = go (eqb r.number n) (length_dropped n rs)
  where
    go : (v : Bool) → length (dropped n rs) ≤ length rs → length (cond v rs (r ∷ dropped n rs)) ≤ suc (length rs)
    go true i = omega arith
    go false i = omega arith

-- a command brings one subscriber more at most
step_grows : (t : Tree) (s : Network) (d : Command) (b : ℕ) → length ((step t s d).subscribers b) ≤ suc (length (s.subscribers b))
unfolding tell arrive
step_grows t s d b =
    by_cases
    t
    s
    (λ d u. length (u.subscribers b) ≤ suc (length (s.subscribers b)))
    (record {
      refused = λ d r. same;
      idle = λ a c q. same;
      joined = λ c n f hc new.
          at c (s.subscribers c ++ record { number = n; filter = f } ∷ [])
          (let l = length-append (s.subscribers c) (record { number = n; filter = f } ∷ []) in
          omega arith);
      left = λ c n hc there.
          at c (dropped n (s.subscribers c))
          (let l = length_dropped n (s.subscribers c) in
          omega arith);
      posted = λ c k e hc new. same;
      told = λ a c m ms ha e q tid. same;
      noticed = λ a c k e ms ha f q. same;
    })
    d
  where
    same : length (s.subscribers b) ≤ suc (length (s.subscribers b))
    same = omega arith

    at : (c : ℕ) (rs : List Subscriber) → length rs ≤ suc (length (s.subscribers c)) → length (cond (eqb b c) rs (s.subscribers b)) ≤ suc (length (s.subscribers b))
    at c rs l = go (eqb b c) refl
      where
        go : (v : Bool) → eqb b c ≡ v → length (cond v rs (s.subscribers b)) ≤ suc (length (s.subscribers b))
        go true i = rw (eqb-true b c i) l
        go false i = same

pub few_throughout :
    (t : Tree) (hung : hangs t ≡ true) (R : ℕ) (ds : List Command) (s : Network) → ((b : ℕ) → length (s.subscribers b) + length ds ≤ R) →
    Throughout (Few t R) t s ds
unfolding Throughout Few
few_throughout t hung R [] s h = λ b hb. let l = h b in omega arith
few_throughout t hung R (d ∷ ds) s h = (
  (λ b hb. let l = h b in omega arith),
  few_throughout t hung R ds (step t s d)
      (λ b.
      let l = h b in
      let g = step_grows t s d b in
      omega arith),
)

pub rest : Rest
rest t hung ds =
    record {
      most = measure t (C t hung R) (reached t ds).channel;
      bounded = λ es c. bounded t hung R c h;
      stuck = stuck t hung R (reached t ds) (right t hung ds).tables;
      reaches = reaches t hung R (suc (measure t (C t hung R) (reached t ds).channel)) (reached t ds) h (omega arith);
    }
  where
    R : ℕ
    R = length ds

    start : Throughout (Few t R) t empty ds
    start = few_throughout t hung R ds empty (λ b. omega arith)

    h : Sound t hung R (reached t ds)
    h =
        record {
          sound = right t hung ds;
          fits = end_fits t hung R ds empty (empty_tables t) (empty_fits t R) start;
          few = throughout_end (Few t R) t empty ds start;
        }
