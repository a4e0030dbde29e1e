-- A test asked of the numbers of a range, said of each number in it, and not of a list.
use Rattle.std.proofs.Common.{◌≡◌, ℕ, ◌+◌, ◌-◌, ◌<◌, ◌≤◌, length, get_or, ◌∙◌, subst, arith}
use Rattle.std.specs.List.{AllWithin, HoldsAt, range_with_len}
use Rattle.std.proofs.lemmas.List.FromFn.{length-range_with_len, get_or-range_with_len}

pub each_in_range : (P : ℕ → Type 0) (a n : ℕ) → AllWithin P (range_with_len a n) 0 (length (range_with_len a n)) → (k : ℕ) → a ≤ k → k < a + n → P k
each_in_range P a n h k p q =
    let l = length-range_with_len a n in
    let e : get_or (range_with_len a n) (k - a) 0 ≡ k = get_or-range_with_len a n (k - a) 0 (omega arith) ∙ omega arith in
    subst P e (h (k - a) 0 (omega arith) (omega arith))

pub one_in_range : (P : ℕ → Type 0) (a n i : ℕ) → i < length (range_with_len a n) → HoldsAt P (range_with_len a n) i → (a + i < a + n) × P (a + i)
one_in_range P a n i l h =
    let m = length-range_with_len a n in
    let b : i < n = omega arith in
    (omega arith, subst P (get_or-range_with_len a n i 0 b) (h 0))
