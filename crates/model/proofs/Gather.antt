-- Who is a member of what several tables hold together: of those of the brokers beside one, and of those behind one.
use Rattle.std.proofs.Common.{◌≡◌, ℕ, zero, suc, ◌<◌, Bool, true, false, cond, ◌||◌, eqb, ◌⊎◌, List, [], ◌∷◌, ◌++◌, sym, refl, ap, ◌∙◌, inl, inr, append_assoc, arith}
use Rattle.std.proofs.lemmas.Bool.{eqb-true, eqb-false, cases_eq, or_left, or_right, eq-eqb}
use Rattle.filter.specs.Filter.{Filter}
use Rattle.cover.specs.Maximal.{among, maximal}
use Rattle.cover.proofs.Members.{among_append, among_left, among_right, among_parts}
use Rattle.cover.proofs.Maximals.{maximal_part}
use Rattle.model.specs.Tree.{has}
use Rattle.model.specs.Model.{from_others}
use Rattle.model.specs.Promise.{gathered}

pub both : (x y : Bool) → (x ≡ true → y ≡ true) → (y ≡ true → x ≡ true) → x ≡ y
both true y p q = sym (p refl)
both false true p q = q refl
both false false p q = refl

pub from_others_find :
    (f : Filter) (table : ℕ → List Filter) (b : ℕ) (ns : List ℕ) → among f (from_others table b ns) ≡ true →
    (m : ℕ) × (has ns m ≡ true) × (m ≡ b → ⊥) × (among f (table m) ≡ true)
unfolding from_others has among
from_others_find f table b [] h = let z : ◌≡◌ {A = ℕ} 0 1 = grind arith in absurd (omega arith)
from_others_find f table b (m ∷ ns) h = go (eqb m b) refl h (from_others_find f table b ns)
  where
    go :
        (v : Bool) → eqb m b ≡ v → among f (cond v (from_others table b ns) (table m ++ from_others table b ns)) ≡ true →
        (among f (from_others table b ns) ≡ true → (l : ℕ) × (has ns l ≡ true) × (l ≡ b → ⊥) × (among f (table l) ≡ true)) →
        (l : ℕ) × ((eqb m l || has ns l) ≡ true) × (l ≡ b → ⊥) × (among f (table l) ≡ true)
    go true q k r =
        let (l, i, j, o) = r k in
        (l, or_right (eqb m l) (has ns l) i, j, o)
    go false q k r =
        elim (among_parts f (table m) (from_others table b ns) k) [
          | inl p ↦ (m, or_left (eqb m m) (has ns m) (eq-eqb m m refl), eqb-false m b q, p)
          | inr p ↦ (let (l, i, j, o) = r p in (l, or_right (eqb m l) (has ns l) i, j, o))
        ]

pub from_others_has :
    (f : Filter) (table : ℕ → List Filter) (b m : ℕ) (ns : List ℕ) → has ns m ≡ true → (m ≡ b → ⊥) → among f (table m) ≡ true →
    among f (from_others table b ns) ≡ true
unfolding from_others has
from_others_has f table b m [] i ne h = grind arith
from_others_has f table b m (l ∷ ns) i ne h = go (eqb l b) refl (eqb l m) refl i (λ p. from_others_has f table b m ns p ne h)
  where
    go :
        (v : Bool) → eqb l b ≡ v → (w : Bool) → eqb l m ≡ w → (w || has ns m) ≡ true → (has ns m ≡ true → among f (from_others table b ns) ≡ true) →
        among f (cond v (from_others table b ns) (table l ++ from_others table b ns)) ≡ true
    go true p true q k r = absurd (ne (sym (eqb-true l m q) ∙ eqb-true l b p))
    go true p false q k r = r k
    go false p true q k r = among_left f (table l) (from_others table b ns) (rw (eqb-true l m q) h)
    go false p false q k r = among_right f (table l) (from_others table b ns) (r k)

pub gathered_find :
    (f : Filter) (test : ℕ → Bool) (table : ℕ → List Filter) (k : ℕ) → among f (gathered test table k) ≡ true →
    (c : ℕ) × (c < k) × (test c ≡ true) × (among f (table c) ≡ true)
unfolding gathered among
gathered_find f test table zero h = let z : ◌≡◌ {A = ℕ} 0 1 = grind arith in absurd (omega arith)
gathered_find f test table (suc k) h = go (test k) refl h (gathered_find f test table k)
  where
    go :
        (v : Bool) → test k ≡ v → among f (cond v (table k ++ gathered test table k) (gathered test table k)) ≡ true →
        (among f (gathered test table k) ≡ true → (c : ℕ) × (c < k) × (test c ≡ true) × (among f (table c) ≡ true)) →
        (c : ℕ) × (c < suc k) × (test c ≡ true) × (among f (table c) ≡ true)
    go true q i r =
        elim (among_parts f (table k) (gathered test table k) i) [
          | inl p ↦ (k, omega arith, q, p)
          | inr p ↦ (let (c, l, j, o) = r p in (c, omega arith, j, o))
        ]
    go false q i r =
        let (c, l, j, o) = r i in
        (c, omega arith, j, o)

pub gathered_has :
    (f : Filter) (test : ℕ → Bool) (table : ℕ → List Filter) (k c : ℕ) → c < k → test c ≡ true → among f (table c) ≡ true →
    among f (gathered test table k) ≡ true
unfolding gathered
gathered_has f test table zero c l q h = absurd (omega arith)
gathered_has f test table (suc k) c l q h = go (test k) refl (cases_eq c k) (λ p. gathered_has f test table k c p q h)
  where
    go :
        (v : Bool) → test k ≡ v → (c ≡ k) ⊎ (c ≡ k → ⊥) → (c < k → among f (gathered test table k) ≡ true) →
        among f (cond v (table k ++ gathered test table k) (gathered test table k)) ≡ true
    go true p (inl i) r = among_left f (table k) (gathered test table k) (rw i at h)
    go false p (inl i) r =
        let z : true ≡ false = sym (rw i at q) ∙ p in
        grind arith
    go true p (inr i) r = among_right f (table k) (gathered test table k) (r (omega arith))
    go false p (inr i) r = r (omega arith)

-- where each table is the maximal filters of a list, these lists do for the tables
pub from_others_maximal :
    (table lists : ℕ → List Filter) (b : ℕ) (ns : List ℕ) → ((m : ℕ) → has ns m ≡ true → (m ≡ b → ⊥) → table m ≡ maximal (lists m)) →
    (fs : List Filter) → maximal (fs ++ from_others table b ns) ≡ maximal (fs ++ from_others lists b ns)
unfolding from_others has
from_others_maximal table lists b [] h fs = refl
from_others_maximal table lists b (m ∷ ns) h fs =
    go (eqb m b) refl (from_others_maximal table lists b ns (λ l i ne. h l (or_right (eqb m l) (has ns l) i) ne))
  where
    go :
        (v : Bool) → eqb m b ≡ v →
        ((gs : List Filter) → maximal (gs ++ from_others table b ns) ≡ maximal (gs ++ from_others lists b ns)) →
        maximal (fs ++ cond v (from_others table b ns) (table m ++ from_others table b ns))
        ≡ maximal (fs ++ cond v (from_others lists b ns) (lists m ++ from_others lists b ns))
    go true q r = r fs
    go false q r =
        let i = h m (or_left (eqb m m) (has ns m) (eq-eqb m m refl)) (eqb-false m b q) in
        rw
        i
        (maximal_part fs (lists m) (from_others table b ns)
        ∙ (ap maximal (sym (append_assoc fs (lists m) (from_others table b ns)))
        ∙ (r (fs ++ lists m) ∙ ap maximal (append_assoc fs (lists m) (from_others lists b ns)))))

pub gathered_same :
    (f : Filter) (test : ℕ → Bool) (table other : ℕ → List Filter) (k : ℕ) → ((c : ℕ) → c < k → among f (table c) ≡ among f (other c)) →
    among f (gathered test table k) ≡ among f (gathered test other k)
unfolding gathered
gathered_same f test table other zero h = refl
gathered_same f test table other (suc k) h = go (test k) (gathered_same f test table other k (λ c l. h c (omega arith)))
  where
    go :
        (v : Bool) → among f (gathered test table k) ≡ among f (gathered test other k) →
        among f (cond v (table k ++ gathered test table k) (gathered test table k)) ≡ among f (cond v (other k ++ gathered test other k) (gathered test other k))
    go true r =
        let a = among_append f (table k) (gathered test table k) in
        let b = among_append f (other k) (gathered test other k) in
        let i = h k (omega arith) in
        cc
    go false r = r
