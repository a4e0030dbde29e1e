-- A row that is filled up with zeros: what a copy into a cleared array holds, and that the zeros change no test.
use Rattle.std.proofs.Common.{◌≡◌, ℕ, zero, suc, ◌-◌, ◌*◌, ◌%◌, ◌≤◌, min, true, List, [], ◌∷◌, ◌++◌, length, take, drop, replicate, refl, arith, rules}
use Rattle.std.proofs.lemmas.List.{places, same_lists, take_all, drop-replicate, length-replicate}
use Rattle.filter.specs.Laws.{PaddingChangesNothing}
use Rattle.filter.proofs.Laws.{covers_refl, same_refl, before_irrefl}
use Rattle.filter.specs.Filter.{Filter, Notice, matches, covers, same, before, padded}

pub padded_is : (k n : ℕ) (xs : List ℕ) → n ≡ min (length xs) k → take n xs ++ drop n (replicate k 0) ≡ padded k xs
padded_is k n xs e = same_lists _ _ (search (rules, places)) (λ i d h. grind (arith, places))

pub length_padded : (k : ℕ) (xs : List ℕ) → length (padded k xs) ≡ k
length_padded k xs = search (rules, places)

-- a row that is not too long, written over the zeros
pub padded_over : (k : ℕ) (xs : List ℕ) → length xs ≤ k → padded k xs ≡ xs ++ drop (length xs) (replicate k 0)
padded_over k xs h =
    let p = padded_is k (length xs) xs (omega arith) in
    let t = take_all (length xs) xs (omega arith) in
    cc

pub padded_short : (k : ℕ) (xs : List ℕ) → length xs ≤ k → padded k xs ≡ xs ++ replicate (k - length xs) 0
padded_short k xs h =
    let p = padded_over k xs h in
    let d = drop-replicate {X = ℕ} (length xs) k 0 in
    cc

-- the same zeros behind both change no test
covers_append : (f g z : Filter) → length f % 2 ≡ 0 → length f ≡ length g → covers z z ≡ true → covers (f ++ z) (g ++ z) ≡ covers f g
unfolding covers
covers_append [] [] z p q h = h
covers_append [] (c ∷ g) z p q h = grind arith
covers_append (a ∷ []) g z p q h = grind arith
covers_append (a ∷ b ∷ f) [] z p q h = grind arith
covers_append (a ∷ b ∷ f) (c ∷ []) z p q h = grind arith
covers_append (a ∷ b ∷ f) (c ∷ d ∷ g) z p q h =
    let i : length f % 2 ≡ 0 = omega arith in
    let j : length f ≡ length g = omega arith in
    let r = covers_append f g z i j h in
    cc

matches_append : (f z : Filter) (e y : Notice) → length f ≡ 2 * length e → matches z y ≡ true → matches (f ++ z) (e ++ y) ≡ matches f e
unfolding matches
matches_append [] z [] y p h = h
matches_append [] z (x ∷ e) y p h = grind arith
matches_append (a ∷ []) z e y p h = grind arith
matches_append (a ∷ b ∷ f) z [] y p h = grind arith
matches_append (a ∷ b ∷ f) z (x ∷ e) y p h =
    let i : length f ≡ 2 * length e = omega arith in
    let r = matches_append f z e y i h in
    cc

same_append : (f g z : Filter) → length f ≡ length g → same (f ++ z) (g ++ z) ≡ same f g
unfolding same
same_append [] [] z p = same_refl z
same_append [] (y ∷ g) z p = grind arith
same_append (x ∷ f) [] z p = grind arith
same_append (x ∷ f) (y ∷ g) z p =
    let i : length f ≡ length g = omega arith in
    let r = same_append f g z i in
    cc

before_append : (f g z : Filter) → length f ≡ length g → before (f ++ z) (g ++ z) ≡ before f g
unfolding before
before_append [] [] z p = before_irrefl z
before_append [] (y ∷ g) z p = grind arith
before_append (x ∷ f) [] z p = grind arith
before_append (x ∷ f) (y ∷ g) z p =
    let i : length f ≡ length g = omega arith in
    let r = before_append f g z i in
    cc

-- ranges 0 to 0 match zeros
zeros_match : (j : ℕ) → matches (replicate (2 * j) 0) (replicate j 0) ≡ true
unfolding matches
zeros_match zero = refl
zeros_match (suc j) =
    let e : 2 * suc j ≡ suc (suc (2 * j)) = omega arith in
    rw (e, zeros_match j)

pub padding_changes_nothing : PaddingChangesNothing
padding_changes_nothing m f g e h p q r =
    let a = padded_short 16 f (omega arith) in
    let b = padded_short 16 g (omega arith) in
    let c = padded_short 8 e (omega arith) in
    let z = replicate {A = ℕ} (2 * (8 - m)) 0 in
    let i : 16 - length f ≡ 2 * (8 - m) = omega arith in
    let j : 16 - length g ≡ 2 * (8 - m) = omega arith in
    let k : 8 - length e ≡ 8 - m = omega arith in
    let n = length-replicate {A = ℕ} (2 * (8 - m)) 0 in
    let zz = covers_refl z (omega arith) in
    let s = covers_append f g z (omega arith) (omega arith) zz in
    let t = matches_append f z e (replicate (8 - m) 0) (omega arith) (zeros_match (8 - m)) in
    let u = same_append f g z (omega arith) in
    let v = before_append f g z (omega arith) in
    record { covering = cc; matching = cc; equality = cc; order = cc }
