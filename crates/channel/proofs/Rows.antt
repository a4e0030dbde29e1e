-- Rows of one width, joined: what stands at a row's place, and a row written over another.
use Rattle.std.proofs.Common.{◌≡◌, ℕ, zero, suc, ◌+◌, ◌*◌, ◌<◌, ◌≤◌, List, [], ◌∷◌, ◌++◌, length, get_or, take, drop, set, replicate, sym, refl, ap, mul-le-mul_left, mul-zero, mul-suc, arith}
use borrow.Rule.Slice.PartMut.{put_mid}
use lib.Seq.{take-append-add, drop-append-add}
use Rattle.std.proofs.lemmas.List.{append_assoc, length-append, take_at, drop_at, replicate-append-replicate}
use Rattle.cover.specs.Table.{written}
use Rattle.channel.specs.Ring.{Row, Wide}

-- a row below the count lies within the words
pub row_fits : (w n k l : ℕ) → k < n → l ≡ 2 + w * n → 2 + w * k + w ≤ l
row_fits w n k l h e =
    let m = mul-le-mul_left w h in
    omega (arith, mul-suc w k)

pub length_written : (w : ℕ) (rs : List Row) → Wide w rs → length (written rs) ≡ w * length rs
unfolding written
length_written w [] h = sym (mul-zero w)
length_written w (r ∷ rs) h =
    let p = length_written w rs h.1 in
    let a : length r ≡ w = h.0 in
    let l = length-append r (written rs) in
    omega (arith, mul-suc w (length rs))

pub written_zeros : (w n : ℕ) → written (replicate n (replicate w 0)) ≡ replicate (w * n) 0
unfolding written
written_zeros w zero = rw (mul-zero w) refl
written_zeros w (suc n) =
    let p = written_zeros w n in
    let q = replicate-append-replicate {A = ℕ} w (w * n) 0 in
    let m : w + w * n ≡ w * suc n = omega (arith, mul-suc w n) in
    rw (p, q, m) refl

pub written_get : (w : ℕ) (rs : List Row) (i : ℕ) → Wide w rs → i < length rs → take w (drop (w * i) (written rs)) ≡ get_or rs i []
unfolding written
written_get w [] i h l = absurd (omega arith)
written_get w (r ∷ rs) zero h l = rw (mul-zero w) (take_at r (written rs) w h.0)
written_get w (r ∷ rs) (suc i) h l =
    let p = written_get w rs i h.1 (omega arith) in
    let a : length r ≡ w = h.0 in
    let m : w * suc i ≡ length r + w * i = omega (arith, mul-suc w i) in
    let d = drop-append-add r (written rs) (w * i) in
    rw (m, d) p

pub written_set : (w : ℕ) (rs : List Row) (i : ℕ) (x : Row) → Wide w rs → i < length rs → put_mid (w * i) w (written rs) x ≡ written (set rs i x)
unfolding written
written_set w [] i x h l = absurd (omega arith)
written_set w (r ∷ rs) zero x h l =
    let d = drop_at r (written rs) w h.0 in
    rw (mul-zero w) (ap (λ ys. x ++ ys) d)
written_set w (r ∷ rs) (suc i) x h l =
    let p = written_set w rs i x h.1 (omega arith) in
    let a : length r ≡ w = h.0 in
    let m : w * suc i ≡ length r + w * i = omega (arith, mul-suc w i) in
    let t = take-append-add r (written rs) (w * i) in
    let d = drop-append-add r (written rs) (w * i) in
    rw (m, t, d, append_assoc) (ap (λ ys. r ++ ys) p)
