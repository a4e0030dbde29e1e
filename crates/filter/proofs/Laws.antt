-- The laws of covering, of matching and of the order of filters.
use Rattle.std.proofs.Common.{◌≡◌, ℕ, ◌%◌, ◌<◌, cond, ◌==◌, ap, nat_eq, nat_lt, Some, Ordering, Bool, true, false, not, ◌&&◌, ◌⊎◌, [], ◌∷◌, length, refl, inl, inr, arith}
use Rattle.std.proofs.lemmas.Bool.Decides.{nat_tests}
use Rattle.std.proofs.lemmas.Cmp.{ranked, same_from_slice_cmp_tested}
use Rattle.std.specs.Cmp.Lexicographic.{pointwise, slice_partial_cmp}
use Rattle.std.specs.Ordering.{MatchOrdering, is_lt, is_some_and, nat_cmp}
use Rattle.std.specs.declared.cmp.Ordering.TheVariants.{Less, Equal, Greater}
use Rattle.filter.specs.Laws.{OrderStrictTotal}
use Rattle.filter.specs.Filter.{Filter, Notice, matches, covers, same, before}

pub covers_trans : (f g h : Filter) → covers f g ≡ true → covers g h ≡ true → covers f h ≡ true
unfolding covers
covers_trans [] [] h p q = q
covers_trans [] (c ∷ g) h p q = grind arith
covers_trans (a ∷ []) g h p q = grind arith
covers_trans (a ∷ b ∷ f) [] h p q = grind arith
covers_trans (a ∷ b ∷ f) (c ∷ []) h p q = grind arith
covers_trans (a ∷ b ∷ f) (c ∷ d ∷ g) [] p q = grind arith
covers_trans (a ∷ b ∷ f) (c ∷ d ∷ g) (x ∷ []) p q = grind arith
covers_trans (a ∷ b ∷ f) (c ∷ d ∷ g) (x ∷ y ∷ h) p q =
    let r = covers_trans f g h in
    grind (arith, nat_tests)

pub covers_antisym : (f g : Filter) → covers f g ≡ true → covers g f ≡ true → f ≡ g
unfolding covers
covers_antisym [] [] p q = refl
covers_antisym [] (c ∷ g) p q = grind arith
covers_antisym (a ∷ []) g p q = grind arith
covers_antisym (a ∷ b ∷ f) [] p q = grind arith
covers_antisym (a ∷ b ∷ f) (c ∷ []) p q = grind arith
covers_antisym (a ∷ b ∷ f) (c ∷ d ∷ g) p q =
    let r = covers_antisym f g in
    grind (arith, nat_tests)

pub covers_refl : (f : Filter) → length f % 2 ≡ 0 → covers f f ≡ true
unfolding covers
covers_refl [] h = refl
covers_refl (a ∷ []) h = grind arith
covers_refl (a ∷ b ∷ f) h =
    let k : length f % 2 ≡ 0 = omega arith in
    let r = covers_refl f k in
    grind (arith, nat_tests)

-- what covers something, and what is covered, covers itself
pub covers_self_left : (f g : Filter) → covers f g ≡ true → covers f f ≡ true
unfolding covers
covers_self_left [] g p = refl
covers_self_left (a ∷ []) g p = grind arith
covers_self_left (a ∷ b ∷ f) [] p = grind arith
covers_self_left (a ∷ b ∷ f) (c ∷ []) p = grind arith
covers_self_left (a ∷ b ∷ f) (c ∷ d ∷ g) p =
    let r = covers_self_left f g in
    grind (arith, nat_tests)

pub covers_self_right : (f g : Filter) → covers f g ≡ true → covers g g ≡ true
unfolding covers
covers_self_right [] [] p = refl
covers_self_right [] (c ∷ g) p = grind arith
covers_self_right (a ∷ []) g p = grind arith
covers_self_right (a ∷ b ∷ f) [] p = grind arith
covers_self_right (a ∷ b ∷ f) (c ∷ []) p = grind arith
covers_self_right (a ∷ b ∷ f) (c ∷ d ∷ g) p =
    let r = covers_self_right f g in
    grind (arith, nat_tests)

pub covers_matches : (f g : Filter) (e : Notice) → covers f g ≡ true → matches g e ≡ true → matches f e ≡ true
unfolding covers matches
covers_matches [] g e p q = refl
covers_matches (a ∷ []) g e p q = grind arith
covers_matches (a ∷ b ∷ f) [] e p q = grind arith
covers_matches (a ∷ b ∷ f) (c ∷ []) e p q = grind arith
covers_matches (a ∷ b ∷ f) (c ∷ d ∷ g) [] p q = grind arith
covers_matches (a ∷ b ∷ f) (c ∷ d ∷ g) (x ∷ e) p q =
    let r = covers_matches f g e in
    grind (arith, nat_tests)

-- `same` decides equality
pub same_refl : (f : Filter) → same f f ≡ true
unfolding same
same_refl [] = refl
same_refl (a ∷ f) =
    let r = same_refl f in
    grind (arith, nat_tests)

pub same_eq : (f g : Filter) → same f g ≡ true → f ≡ g
unfolding same
same_eq [] [] p = refl
same_eq [] (y ∷ g) p = grind arith
same_eq (x ∷ f) [] p = grind arith
same_eq (x ∷ f) (y ∷ g) p =
    let r = same_eq f g in
    grind (arith, nat_tests)

pub eq_same : (f g : Filter) → f ≡ g → same f g ≡ true
eq_same f g e =
    let r = same_refl f in
    cc

-- for `grind`: the test with what it tells
pub same_tells : (f g : Filter) → ((same f g ≡ true) × (f ≡ g)) ⊎ ((same f g ≡ false) × (f ≡ g → ⊥))
same_tells f g = go (same f g) refl
  where
    go : (b : Bool) → same f g ≡ b → ((same f g ≡ true) × (f ≡ g)) ⊎ ((same f g ≡ false) × (f ≡ g → ⊥))
    go true e = inl (e, same_eq f g e)
    go false e =
        inr (
          e,
          λ q.
              let r = eq_same f g q in
              grind arith,
        )

pub before_irrefl : (f : Filter) → before f f ≡ false
unfolding before
before_irrefl [] = refl
before_irrefl (x ∷ f) =
    let r = before_irrefl f in
    grind (arith, nat_tests)

pub before_trans : (f g h : Filter) → before f g ≡ true → before g h ≡ true → before f h ≡ true
unfolding before
before_trans [] [] h p q = grind arith
before_trans [] (y ∷ g) [] p q = grind arith
before_trans [] (y ∷ g) (z ∷ h) p q = refl
before_trans (x ∷ f) [] h p q = grind arith
before_trans (x ∷ f) (y ∷ g) [] p q = grind arith
before_trans (x ∷ f) (y ∷ g) (z ∷ h) p q =
    let r = before_trans f g h in
    grind (arith, nat_tests)

-- of two filters just one holds: the first is before, they are the same, the second is before
pub before_total : (f g : Filter) → same f g ≡ (not (before f g) && not (before g f))
unfolding before same
before_total [] [] = refl
before_total [] (y ∷ g) = refl
before_total (x ∷ f) [] = refl
before_total (x ∷ f) (y ∷ g) =
    let r = before_total f g in
    grind (arith, nat_tests)

pub before_asym : (f g : Filter) → before f g ≡ true → before g f ≡ false
before_asym f g p = go (before g f) refl
  where
    go : (b : Bool) → before g f ≡ b → b ≡ false
    go true e =
        let r = before_trans f g f p e in
        let s = before_irrefl f in
        cc
    go false e = refl

pub order_strict_total : OrderStrictTotal
order_strict_total = record { irreflexive = before_irrefl; transitive = before_trans; total = total; decides = before_total }
  where
    total : (f g : Filter) → (before f g ≡ true) ⊎ ((f ≡ g) ⊎ (before g f ≡ true))
    total f g =
        let r = before_total f g in
        let s = same_tells f g in
        grind arith

-- the same numbers, as the library's equality of lists tells it
pub same_is_equality : (f g : Filter) → same f g ≡ pointwise nat_eq f g
unfolding same
same_is_equality [] [] = refl
same_is_equality [] (y ∷ ys) = refl
same_is_equality (x ∷ xs) [] = refl
same_is_equality (x ∷ xs) (y ∷ ys) = ap (λ b. x == y && b) (same_is_equality xs ys)

-- the library's order of lists is the order of filters
one : (x y : ℕ) (rest : Bool) (o : Ordering) → o ≡ nat_cmp x y →
    MatchOrdering o (cond (nat_lt x y) true (x == y && rest) ≡ true) (cond (nat_lt x y) true (x == y && rest) ≡ rest) (cond (nat_lt x y) true (x == y && rest) ≡ false)
one x y rest Less h = let p : x < y = ranked x y Less h in grind (arith, nat_tests)
one x y rest Equal h = let p : x ≡ y = ranked x y Equal h in grind (arith, nat_tests)
one x y rest Greater h = let p : y < x = ranked x y Greater h in grind (arith, nat_tests)

pub before_is_less : (f g : Filter) (less : Bool) → less ≡ is_some_and is_lt (slice_partial_cmp (λ x y. Some (nat_cmp x y)) f g) → less ≡ before f g
unfolding before
before_is_less f g less =
    same_from_slice_cmp_tested nat_cmp is_lt before refl (λ _ _. refl) (λ _ _. refl) (λ x y xs ys o h. one x y (before xs ys) o h) f g less
