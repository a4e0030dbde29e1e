-- Parts of a row of words lie within it and apart from each other, so what is written to one is there, and leaves the others as they were.
use Rattle.std.proofs.Common.{◌≡◌, ℕ, zero, suc, ◌+◌, ◌-◌, ◌*◌, ◌<◌, ◌≤◌, false, ◌⊎◌, List, [], ◌∷◌, length, take, ap, inl, inr, mul-le-mul_right, mul-add, arith}
use borrow.Rule.Slice.PartMut.{put_mid}
use Rattle.std.specs.List.{between}
use Rattle.std.proofs.lemmas.Slice.{between_is, between-put_mid, take-put_mid_below, drop-put_mid}
use Rattle.std.proofs.lemmas.Bool.{cases_order}
use Rattle.std.proofs.lemmas.Bool.Decides.{nat_tests}
use Rattle.layout.specs.Plan.{Plan, words_of, many_of, size_of, start_of, part, with_part, same_part, PartApart}

-- the end of the i-th of several rows
row_end : (i n s : ℕ) → i < n → i * s + s ≤ n * s
row_end i n s h =
    let p = mul-le-mul_right s h in
    omega (arith, p)

pub part_within : (p : Plan) (k i : ℕ) → i < many_of p k → start_of p k i + size_of p k ≤ words_of p
unfolding many_of size_of start_of words_of
part_within [] k i h = absurd (omega arith)
part_within (x ∷ xs) zero i h =
    let r = row_end i x.many x.size h in
    omega arith
part_within (x ∷ xs) (suc k) i h =
    let r = part_within xs k i h in
    omega arith

-- one of two different parts ends before the other begins
parts_apart : (p : Plan) (k i l j : ℕ) → i < many_of p k → j < many_of p l → same_part k i l j ≡ false →
    (start_of p k i + size_of p k ≤ start_of p l j) ⊎ (start_of p l j + size_of p l ≤ start_of p k i)
unfolding many_of size_of start_of
parts_apart [] k i l j a b d = absurd (omega arith)
parts_apart (x ∷ xs) zero i zero j a b d = rows (cases_order i j)
  where
    rows : (i ≡ j) ⊎ ((i < j) ⊎ (j < i)) → (i * x.size + x.size ≤ j * x.size) ⊎ (j * x.size + x.size ≤ i * x.size)
    rows (inl e) = absurd (grind (arith, nat_tests))
    rows (inr (inl l)) = inl (row_end i j x.size l)
    rows (inr (inr l)) = inr (row_end j i x.size l)
parts_apart (x ∷ xs) zero i (suc l) j a b d =
    let r = row_end i x.many x.size a in
    inl (omega arith)
parts_apart (x ∷ xs) (suc k) i zero j a b d =
    let r = row_end j x.many x.size b in
    inr (omega arith)
parts_apart (x ∷ xs) (suc k) i (suc l) j a b d =
    shifted (parts_apart xs k i l j a b (grind (arith, nat_tests)))
  where
    shifted :
        (start_of xs k i + size_of xs k ≤ start_of xs l j) ⊎ (start_of xs l j + size_of xs l ≤ start_of xs k i) →
        (x.many * x.size + start_of xs k i + size_of xs k ≤ x.many * x.size + start_of xs l j)
        ⊎ (x.many * x.size + start_of xs l j + size_of xs l ≤ x.many * x.size + start_of xs k i)
    shifted (inl h) = inl (omega arith)
    shifted (inr h) = inr (omega arith)

-- what a part of a row holds after other words of the same length were written over a part
between_same : (a n : ℕ) (xs ys : List ℕ) → a + n ≤ length xs → length ys ≡ n → between a (a + n) (put_mid a n xs ys) ≡ ys
between_same a n xs ys h l = between-put_mid a n xs ys (a + n) (omega arith) (omega arith)

between_below : (a n b e : ℕ) (xs ys : List ℕ) → e ≤ a → a ≤ length xs → between b e (put_mid a n xs ys) ≡ between b e xs
between_below a n b e xs ys h l =
    let p = between_is (put_mid a n xs ys) b e in
    let q = between_is xs b e in
    let r = take-put_mid_below a n xs ys e h l in
    cc

between_above : (a n b e : ℕ) (xs ys : List ℕ) → a + n ≤ b → a ≤ length xs → length ys ≡ n → between b e (put_mid a n xs ys) ≡ between b e xs
between_above a n b e xs ys h l m =
    let r = drop-put_mid a n xs ys b h l m in
    ap (take (e - b)) r

-- the part holds what was written to it
pub part_written : (p : Plan) (memory ys : List ℕ) (k i : ℕ) → words_of p ≤ length memory → i < many_of p k → length ys ≡ size_of p k →
    part p (with_part p memory k i ys) k i ≡ ys
part_written p memory ys k i w h l =
    let b = part_within p k i h in
    between_same (start_of p k i) (size_of p k) memory ys (omega arith) l

-- every other part, of any kind, holds what it held
pub part_kept : (p : Plan) (memory ys : List ℕ) (k i l j : ℕ) → words_of p ≤ length memory → i < many_of p k → j < many_of p l → length ys ≡ size_of p k →
    same_part k i l j ≡ false → part p (with_part p memory k i ys) l j ≡ part p memory l j
part_kept p memory ys k i l j w h g m d = apart (parts_apart p k i l j h g d)
  where
    apart : (start_of p k i + size_of p k ≤ start_of p l j) ⊎ (start_of p l j + size_of p l ≤ start_of p k i) → part p (with_part p memory k i ys) l j ≡ part p memory l j
    apart (inl e) =
        let b = part_within p k i h in
        between_above (start_of p k i) (size_of p k) (start_of p l j) (start_of p l j + size_of p l) memory ys e (omega arith) m
    apart (inr e) =
        let b = part_within p k i h in
        between_below (start_of p k i) (size_of p k) (start_of p l j) (start_of p l j + size_of p l) memory ys e (omega arith)

pub parts_lie_apart :
    (p : Plan) (memory ys : List ℕ) (k i : ℕ) → words_of p ≤ length memory → i < many_of p k → length ys ≡ size_of p k → PartApart p memory ys k i
parts_lie_apart p memory ys k i w h l =
    record {
      within = part_within p k i h;
      written = part_written p memory ys k i w h l;
      others = λ m j g d. part_kept p memory ys k i m j w h g l d;
    }

-- the words of a plan whose kinds come in pairs: n parts of a and of b words, m of c, c and d words, then e and f
pub words_together : (n m a b c d e f : ℕ) →
    n * (a + b) + m * (2 * c + d) + e + f ≡ n * a + (n * b + (m * c + (m * c + (m * d + (1 * e + (1 * f + 0))))))
words_together n m a b c d e f =
    let p = mul-add n a b in
    let q = mul-add m (2 * c) d in
    let r = mul-add m c c in
    let s : 2 * c ≡ c + c = omega arith in
    let t = ap (λ x. m * x) s in
    omega arith
