-- Words that move within a list: copied down, moved up for a row that comes in, moved down for one that goes out.
use Rattle.std.proofs.Common.{◌≡◌, ℕ, ◌+◌, ◌-◌, ◌≤◌, List, ◌++◌, length, take, drop, replicate, sym, refl, ap, ◌∙◌, arith}
use borrow.Rule.Slice.PartMut.{put_mid}
use Rattle.std.proofs.lemmas.List.{append_assoc, length-append, length-drop, length-take-le, take_at, take-take, drop_at, drop-drop, drop-take}

-- a part in front of another, with f in its place
over_front : (a c b d f : List ℕ) (at k : ℕ) → length a ≡ at → length c ≡ k → put_mid at k (a ++ ((c ++ b) ++ d)) f ≡ a ++ (f ++ (b ++ d))
over_front a c b d f at k p q =
    let t = take_at a ((c ++ b) ++ d) at p in
    let u = drop_at a ((c ++ b) ++ d) at p in
    let v = append_assoc c b d in
    let x = drop_at c (b ++ d) k q in
    rw (t, u, v, x) refl

-- a part past two others, with f in its place
over_past : (a b c d f : List ℕ) (at k : ℕ) → length a + length b ≡ at → length c ≡ k → put_mid at k (a ++ ((b ++ c) ++ d)) f ≡ a ++ (b ++ (f ++ d))
over_past a b c d f at k p q =
    let l = length-append a b in
    let e : a ++ ((b ++ c) ++ d) ≡ (a ++ b) ++ (c ++ d) = ap (λ x. a ++ x) (append_assoc b c d) ∙ sym (append_assoc a b (c ++ d)) in
    let t = take_at (a ++ b) (c ++ d) at (omega arith) in
    let u = drop_at (a ++ b) (c ++ d) at (omega arith) in
    let x = drop_at c d k q in
    rw (e, t, u, x) (append_assoc a b (f ++ d))

pub shifted_in : (d f : List ℕ) (at end : ℕ) → at ≤ end → end + length f ≤ length d → (ys : List ℕ) →
    ys ≡ drop (length (take (end + length f - at) (drop at d)) - length f) (take (end + length f - at) (drop at d)) ++ take (length (take (end + length f - at) (drop at d)) - length f) (take (end + length f - at) (drop at d)) →
    put_mid at (at + length f - at) (put_mid at (end + length f - at) d ys) f ≡ take at d ++ (f ++ (take (end - at) (drop at d) ++ drop (end + length f) d))
shifted_in d f at end h b ys e =
    let ld = length-drop at d in
    let lt = length-take-le (end + length f - at) (drop at d) (omega arith) in
    let n : length (take (end + length f - at) (drop at d)) - length f ≡ end - at = omega arith in
    let t = take-take (end - at) (end + length f - at) (drop at d) (omega arith) in
    let x = drop-drop (end + length f - at) at d in
    let k : at + (end + length f - at) ≡ end + length f = omega arith in
    let la = length-take-le at d (omega arith) in
    let lc = length-drop (end - at) (take (end + length f - at) (drop at d)) in
    rw (e, n, t, x, k)
    (over_front (take at d) (drop (end - at) (take (end + length f - at) (drop at d))) (take (end - at) (drop at d)) (drop (end + length f) d) f at (at + length f - at) la (omega arith))

shifted_over : (d zs : List ℕ) (at end n : ℕ) → at + n ≤ end → end ≤ length d → (ys : List ℕ) →
    ys ≡ drop n (take (end - at) (drop at d)) ++ take n (take (end - at) (drop at d)) →
    put_mid (end - n) (end - (end - n)) (put_mid at (end - at) d ys) zs ≡ take at d ++ (take (end - (at + n)) (drop (at + n) d) ++ (zs ++ drop end d))
shifted_over d zs at end n h b ys e =
    let m : n + (end - (at + n)) ≡ end - at = omega arith in
    let t = drop-take n (end - (at + n)) (drop at d) in
    let u = drop-drop n at d in
    let front : drop n (take (end - at) (drop at d)) ≡ take (end - (at + n)) (drop (at + n) d) = rw (← m, t, u) refl in
    let x = drop-drop (end - at) at d in
    let k : at + (end - at) ≡ end = omega arith in
    let la = length-take-le at d (omega arith) in
    let ld = length-drop at d in
    let le = length-drop (at + n) d in
    let lb = length-take-le (end - (at + n)) (drop (at + n) d) (omega arith) in
    let lt = length-take-le (end - at) (drop at d) (omega arith) in
    let lc = length-take-le n (take (end - at) (drop at d)) (omega arith) in
    rw (e, front, x, k)
    (over_past (take at d) (take (end - (at + n)) (drop (at + n) d)) (take n (take (end - at) (drop at d))) (drop end d) zs (end - n) (end - (end - n)) (omega arith) (omega arith))

-- a part of a list has as many words as lie between its ends
length_part : (xs : List ℕ) (n end : ℕ) → n ≤ end → end ≤ length xs → length (take (end - (end - n)) (drop (end - n) xs)) ≡ n
length_part xs n end h b =
    let l = length-drop (end - n) xs in
    let t = length-take-le (end - (end - n)) (drop (end - n) xs) (omega arith) in
    omega arith

pub shifted_out : (d zs : List ℕ) (at end n : ℕ) → at + n ≤ end → end ≤ length d → (ys : List ℕ) →
    ys ≡ drop n (take (end - at) (drop at d)) ++ take n (take (end - at) (drop at d)) →
    length (put_mid at (end - at) d ys) ≡ length d →
    zs ≡ replicate (length (take (end - (end - n)) (drop (end - n) (put_mid at (end - at) d ys)))) 0 →
    put_mid (end - n) (end - (end - n)) (put_mid at (end - at) d ys) zs ≡ take at d ++ (take (end - (at + n)) (drop (at + n) d) ++ (replicate n 0 ++ drop end d))
shifted_out d zs at end n h b ys e l z =
    let p = length_part (put_mid at (end - at) d ys) n end (omega arith) (omega arith) in
    let r : zs ≡ replicate {A = ℕ} n 0 = z ∙ ap (λ k. replicate {A = ℕ} k 0) p in
    ap (put_mid (end - n) (end - (end - n)) (put_mid at (end - at) d ys)) r ∙ shifted_over d (replicate n 0) at end n h b ys e

-- .. where it was turned by as many words as go out
pub turned_out : (d zs : List ℕ) (at end n : ℕ) → at + n ≤ end → end ≤ length d → (ys : List ℕ) (k : ℕ) → k ≡ n →
    ys ≡ drop k (take (end - at) (drop at d)) ++ take k (take (end - at) (drop at d)) →
    length (put_mid at (end - at) d ys) ≡ length d →
    zs ≡ replicate (length (take (end - (end - n)) (drop (end - n) (put_mid at (end - at) d ys)))) 0 →
    put_mid (end - n) (end - (end - n)) (put_mid at (end - at) d ys) zs ≡ take at d ++ (take (end - (at + n)) (drop (at + n) d) ++ (replicate n 0 ++ drop end d))
turned_out d zs at end n h b ys k s e = shifted_out d zs at end n h b ys (rw s at e)
