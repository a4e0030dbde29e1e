-- What a pass over two rows leans on: each test of them by their lengths, by their first numbers and what is left, and where one is at its end; and one
-- word more written.
use Rattle.std.proofs.Common.{◌≡◌, ℕ, ◌+◌, ◌-◌, ◌*◌, ◌%◌, ◌<◌, ◌≤◌, true, cond, ◌&&◌, leb, ltb, eqb, ◌⊎◌, List, [], ◌∷◌, ◌++◌, length, get_or, take, drop, set, sym, refl, ◌==◌, arith}
use Rattle.std.proofs.lemmas.List.{append_assoc, set_at, drop_more, take_rest}
use Rattle.std.proofs.lemmas.Bool.Decides.{nat_tests}
use Rattle.filter.specs.Filter.{Filter, Notice, matches, covers, before}

-- filters of which one covers the other have one length, an even one
pub covers_shape : (f g : Filter) → covers f g ≡ true → (length f ≡ length g) × (length f % 2 ≡ 0)
unfolding covers
covers_shape [] [] h = (refl, refl)
covers_shape [] (c ∷ g) h = grind arith
covers_shape (a ∷ []) g h = grind arith
covers_shape (a ∷ b ∷ f) [] h = grind arith
covers_shape (a ∷ b ∷ f) (c ∷ []) h = grind arith
covers_shape (a ∷ b ∷ f) (c ∷ d ∷ g) h =
    let r = covers_shape f g in
    grind (arith, nat_tests)

pub covers_pair : (f g : Filter) → 2 ≤ length f → 2 ≤ length g →
    covers f g
    ≡ ((leb (get_or f 0 0) (get_or g 0 0) && leb (get_or g 1 0) (get_or f 1 0)) && covers (take (length f - 2) (drop 2 f)) (take (length g - 2) (drop 2 g)))
unfolding covers
covers_pair [] g p q = grind arith
covers_pair (a ∷ []) g p q = grind arith
covers_pair (a ∷ b ∷ f) [] p q = grind arith
covers_pair (a ∷ b ∷ f) (c ∷ []) p q = grind arith
covers_pair (a ∷ b ∷ f) (c ∷ d ∷ g) p q = rw (take_rest (a ∷ b ∷ f) 2, take_rest (c ∷ d ∷ g) 2)

pub covers_end : (f g : Filter) → (length f < 2) ⊎ (length g < 2) → covers f g ≡ ((length f == 0) && (length g == 0))
unfolding covers
covers_end [] [] h = refl
covers_end [] (c ∷ g) h = grind (arith, nat_tests)
covers_end (a ∷ []) g h = grind (arith, nat_tests)
covers_end (a ∷ b ∷ f) [] h = grind (arith, nat_tests)
covers_end (a ∷ b ∷ f) (c ∷ []) h = grind (arith, nat_tests)
covers_end (a ∷ b ∷ f) (c ∷ d ∷ g) h = grind arith

-- a filter that matches has an even length, and a number for each range
pub matches_shape : (f : Filter) (e : Notice) → matches f e ≡ true → (length f % 2 ≡ 0) × (length f ≤ 2 * length e)
unfolding matches
matches_shape [] e h = (refl, omega arith)
matches_shape (a ∷ []) e h = grind arith
matches_shape (a ∷ b ∷ f) [] h = grind arith
matches_shape (a ∷ b ∷ f) (x ∷ e) h =
    let r = matches_shape f e in
    grind (arith, nat_tests)

pub matches_pair : (f : Filter) (e : Notice) → 2 ≤ length f → 1 ≤ length e →
    matches f e
    ≡ ((leb (get_or f 0 0) (get_or e 0 0) && leb (get_or e 0 0) (get_or f 1 0)) && matches (take (length f - 2) (drop 2 f)) (take (length e - 1) (drop 1 e)))
unfolding matches
matches_pair [] e p q = grind arith
matches_pair (a ∷ []) e p q = grind arith
matches_pair (a ∷ b ∷ f) [] p q = grind arith
matches_pair (a ∷ b ∷ f) (x ∷ e) p q = rw (take_rest (a ∷ b ∷ f) 2, take_rest (x ∷ e) 1)

pub matches_end : (f : Filter) (e : Notice) → (length f < 2) ⊎ (length e < 1) → matches f e ≡ (length f == 0)
unfolding matches
matches_end [] e h = refl
matches_end (a ∷ []) e h = grind (arith, nat_tests)
matches_end (a ∷ b ∷ f) [] h = grind (arith, nat_tests)
matches_end (a ∷ b ∷ f) (x ∷ e) h = grind arith

-- the fronts of two rows, and what lies behind them
pub before_pair : (f g u v : Filter) → 1 ≤ length f → 1 ≤ length g →
    before (f ++ u) (g ++ v)
    ≡ cond (ltb (get_or f 0 0) (get_or g 0 0)) true (eqb (get_or f 0 0) (get_or g 0 0) && before (take (length f - 1) (drop 1 f) ++ u) (take (length g - 1) (drop 1 g) ++ v))
unfolding before
before_pair [] g u v p q = grind arith
before_pair (x ∷ f) [] u v p q = grind arith
before_pair (x ∷ f) (y ∷ g) u v p q = rw (take_rest (x ∷ f) 1, take_rest (y ∷ g) 1)

-- where the fronts are at their end, and nothing lies behind one of them, the shorter row comes first
pub before_end : (f g u v : Filter) → length f < 1 → length g < 1 → (length u < 1) ⊎ (length v < 1) → before (f ++ u) (g ++ v) ≡ ltb (length u) (length v)
unfolding before
before_end [] [] [] [] p q h = refl
before_end [] [] [] (y ∷ v) p q h = grind (arith, nat_tests)
before_end [] [] (x ∷ u) [] p q h = grind (arith, nat_tests)
before_end [] [] (x ∷ u) (y ∷ v) p q h = grind arith
before_end [] (y ∷ g) u v p q h = grind arith
before_end (x ∷ f) g u v p q h = grind arith

-- a pass that writes words one behind the other over the front of a row: one word more
pub push_over : (xs was : List ℕ) (k x : ℕ) → k ≡ length xs → k < length was → set (xs ++ drop k was) k x ≡ (xs ++ x ∷ []) ++ drop (k + 1) was
push_over xs was k x e h =
    let d = drop_more was k 0 h in
    let s = set_at xs (get_or was k 0) (drop (k + 1) was) x k (sym e) in
    let a = append_assoc xs (x ∷ []) (drop (k + 1) was) in
    cc
