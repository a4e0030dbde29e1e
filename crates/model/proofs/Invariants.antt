-- Every command keeps the invariant; a broker has no more arrivals than there are notices; and the invariant is a proposition.
use Rattle.std.proofs.Common.{◌≡◌, ℕ, zero, suc, ◌≤◌, Bool, true, false, cond, not, eqb, List, [], ◌∷◌, length, sym, refl, ap, ◌∙◌, arith}
use mathlib.Core.Bool.{Bool-set}
use mathlib.Core.List.{is_set}
use mathlib.Core.HLevel.{Π_prop, →_prop, Σ_set, collapsible→set}
use native.Mathlib.Nat.{ℕ_set}
use native.Mathlib.Bridge.{le_prop}
use Rattle.std.proofs.lemmas.Bool.Decides.{nat_tests}
use Rattle.std.proofs.lemmas.Bool.{and_parts, and_from, not-true, eq-eqb, or_left, or_right, both_ways}
use Rattle.filter.specs.Filter.{Filter, Notice}
use Rattle.model.specs.Tree.{Tree, hangs, has, distinct}
use Rattle.model.specs.Model.{Subscriber, Message, add, cut, notice, Delivery, Network, tell, arrive, with_posted, taken, Command, step, end, empty}
use Rattle.model.specs.Invariant.{Tables, Notices, Owners, Right, Fits, Few, Invariant}
use Rattle.model.proofs.Tree.{has_apart}
use Rattle.model.proofs.Cases.{by_cases}
use Rattle.model.proofs.Right.{right, step_right, fresh_here}
use Rattle.model.proofs.Fit.{empty_fits, step_fits}

pub empty_invariant : (t : Tree) → hangs t ≡ true → (R : ℕ) → Invariant t R empty
unfolding end Few distinct
empty_invariant t hung R =
    record {
      right = right t hung [];
      fits = empty_fits t R;
      few = λ b hb. omega arith;
      once_arrived = λ b. refl;
    }

-- what arrives at a broker for the first time
arrive_once :
    (t : Tree) (b m j : ℕ) (e : Notice) (u : Network) → has (u.arrived b) j ≡ false → ((c : ℕ) → distinct (u.arrived c) ≡ true) → (c : ℕ) →
    distinct ((arrive t b m j e u).arrived c) ≡ true
unfolding arrive distinct
arrive_once t b m j e u new h c = go (eqb c b)
  where
    go : (v : Bool) → distinct (cond v (j ∷ u.arrived b) (u.arrived c)) ≡ true
    go true = and_from (not (has (u.arrived b) j)) (distinct (u.arrived b)) (ap not new) (h b)
    go false = h c

step_once :
    (t : Tree) → hangs t ≡ true → (s : Network) (d : Command) → Right t s → ((b : ℕ) → distinct (s.arrived b) ≡ true) → (b : ℕ) →
    distinct ((step t s d).arrived b) ≡ true
unfolding tell
step_once t hung s d r h =
    by_cases
    t
    s
    (λ d u. (b : ℕ) → distinct (u.arrived b) ≡ true)
    (record {
      refused = λ d r. h;
      idle = λ a b q. h;
      joined = λ b n f hb new. h;
      left = λ b n hb there. h;
      posted = λ b k e hb new. arrive_once t b b k e (with_posted s k) (r.notices.unposted_arrived k new b) h;
      told = λ a b m ms ha e q tid. h;
      noticed = λ a b k e ms ha f q. arrive_once t b a k e (taken s a b (notice k e) ms) (fresh_here t hung s r a b k e ms ha f q) h;
    })
    d

pub step_invariant :
    (t : Tree) → hangs t ≡ true → (R : ℕ) (s : Network) (d : Command) → Invariant t R s → Few t R (step t s d) → Invariant t R (step t s d)
step_invariant t hung R s d h few =
    record {
      right = step_right t hung s d h.right;
      fits = step_fits t hung R s h.right.tables h.fits h.few d few;
      few = few;
      once_arrived = step_once t hung s d h.right h.once_arrived;
    }

-- the list without the first place of the number
but : ℕ → List ℕ → List ℕ
but x [] = []
but x (y ∷ ys) = cond (eqb y x) ys (y ∷ but x ys)

but_length : (x : ℕ) (ys : List ℕ) → has ys x ≡ true → suc (length (but x ys)) ≡ length ys
unfolding but has
but_length x [] h = grind arith
but_length x (y ∷ ys) h =
    let r = but_length x ys in
    grind arith

but_has : (x n : ℕ) (ys : List ℕ) → (x ≡ n → ⊥) → has ys n ≡ true → has (but x ys) n ≡ true
unfolding but has
but_has x n [] ne h = h
but_has x n (y ∷ ys) ne h =
    let r = but_has x n ys ne in
    grind (arith, nat_tests)

-- numbers that all differ and all stand in a list are no more than it has places
pub distinct_length : (xs ys : List ℕ) → distinct xs ≡ true → ((n : ℕ) → has xs n ≡ true → has ys n ≡ true) → length xs ≤ length ys
unfolding distinct has
distinct_length [] ys d h = omega arith
distinct_length (x ∷ xs) ys d h =
    let (p, q) = and_parts (not (has xs x)) (distinct xs) d in
    let new = not-true (has xs x) p in
    let l = but_length x ys (h x (or_left (eqb x x) (has xs x) (eq-eqb x x refl))) in
    let r = distinct_length xs (but x ys) q (λ n i. but_has x n ys (has_apart xs x n i new) (h n (or_right (eqb x n) (has xs n) i))) in
    omega arith

pub arrived_few : (t : Tree) (R : ℕ) (s : Network) → Invariant t R s → (b : ℕ) → length (s.arrived b) ≤ length s.posted
arrived_few t R s h b = distinct_length (s.arrived b) s.posted (h.once_arrived b) (λ k i. go k i (has s.posted k) refl)
  where
    go : (k : ℕ) → has (s.arrived b) k ≡ true → (v : Bool) → has s.posted k ≡ v → v ≡ true
    go k i true p = refl
    go k i false p = absurd (both_ways (has (s.arrived b) k) (h.right.notices.unposted_arrived k p b) i)

-- what can be written down in a set and read again is a set
retract_set : {A B : Type 0} (write : A → B) (read : B → A) → ((x : A) → read (write x) ≡ x) → IsSet B → IsSet A
retract_set write read same s =
    collapsible→set
    (λ x y p. sym (same x) ∙ (ap read (ap write p) ∙ same y))
    (λ x y p q. ap (λ r. sym (same x) ∙ (ap read r ∙ same y)) (s (write x) (write y) (ap write p) (ap write q)))

pub filter_set : IsSet Filter
filter_set = is_set ℕ_set

pub subscriber_set : IsSet Subscriber
subscriber_set = retract_set (λ r. (r.number, r.filter)) (λ p. record { number = p.0; filter = p.1 }) (λ r. refl) (Σ_set ℕ_set (λ n. filter_set))

pub delivery_set : IsSet Delivery
delivery_set = retract_set (λ d. (d.what, d.whom)) (λ p. record { what = p.0; whom = p.1 }) (λ d. refl) (Σ_set ℕ_set (λ n. ℕ_set))

-- a message as a number for its kind, the number of its notice, and its row
written : Message → ℕ × (ℕ × List ℕ)
written (add f) = (0, (0, f))
written (cut f) = (1, (0, f))
written (notice k e) = (2, (k, e))

read_back : ℕ → ℕ → List ℕ → Message
read_back zero k f = add f
read_back (suc zero) k f = cut f
read_back (suc (suc i)) k f = notice k f

pub message_set : IsSet Message
unfolding written read_back
message_set = retract_set written (λ p. read_back p.0 p.1.0 p.1.1) same (Σ_set ℕ_set (λ i. Σ_set ℕ_set (λ k. filter_set)))
  where
    same : (m : Message) → read_back (written m).0 (written m).1.0 (written m).1.1 ≡ m
    same (add f) = refl
    same (cut f) = refl
    same (notice k e) = refl

tables_prop : (t : Tree) (s : Network) → IsProp (Tables t s)
tables_prop t s x y =
    λ i.
    record {
      only_beside = Π_prop (λ a. Π_prop (λ n. →_prop (is_set message_set (s.channel a n) []))) x.only_beside y.only_beside i;
      replays = Π_prop (λ a. Π_prop (λ n. →_prop (is_set filter_set _ (s.announced a n)))) x.replays y.replays i;
      learned_sorted = Π_prop (λ a. Π_prop (λ n. Bool-set _ true)) x.learned_sorted y.learned_sorted i;
      announced_sorted = Π_prop (λ a. Π_prop (λ n. Bool-set _ true)) x.announced_sorted y.announced_sorted i;
      announces = Π_prop (λ a. Π_prop (λ n. →_prop (is_set filter_set (s.announced a n) _))) x.announces y.announces i;
    }

notices_prop : (t : Tree) (s : Network) → IsProp (Notices t s)
notices_prop t s x y =
    λ i.
    record {
      unposted_copies = Π_prop (λ k. →_prop (Π_prop (λ a. Π_prop (λ n. ℕ_set _ 0)))) x.unposted_copies y.unposted_copies i;
      unposted_arrived = Π_prop (λ k. →_prop (Π_prop (λ b. Bool-set _ false))) x.unposted_arrived y.unposted_arrived i;
      unposted_delivered = Π_prop (λ k. →_prop (Π_prop (λ n. ℕ_set _ 0))) x.unposted_delivered y.unposted_delivered i;
      one_ahead = Π_prop (λ k. Π_prop (λ c. →_prop le_prop)) x.one_ahead y.one_ahead i;
    }

right_prop : (t : Tree) (s : Network) → IsProp (Right t s)
unfolding Owners
right_prop t s x y =
    λ i.
    record {
      tables = tables_prop t s x.tables y.tables i;
      notices = notices_prop t s x.notices y.notices i;
      owners = Π_prop (λ n. le_prop) x.owners y.owners i;
    }

pub invariant_prop : (t : Tree) (R : ℕ) (s : Network) → IsProp (Invariant t R s)
unfolding Fits Few
invariant_prop t R s x y =
    λ i.
    record {
      right = right_prop t s x.right y.right i;
      fits = Π_prop (λ b. Π_prop (λ n. →_prop (Bool-set _ true))) x.fits y.fits i;
      few = Π_prop (λ b. →_prop le_prop) x.few y.few i;
      once_arrived = Π_prop (λ b. Bool-set _ true) x.once_arrived y.once_arrived i;
    }
