-- Numbers of four bytes, one after the other.
use Rattle.std.proofs.Common.{◌≡◌, ℕ, zero, suc, ◌+◌, ◌*◌, ◌/◌, ◌<◌, ◌≤◌, true, List, [], ◌∷◌, ◌++◌, length, get_or, take, drop, replicate, refl, ap, ◌∙◌, arith, ltb-true}
use borrow.Rule.Slice.PartMut.{put_mid}
use Rattle.std.proofs.Math.Nat.{div-div-eq-div-mul}
use Rattle.std.proofs.lemmas.Nat.{le_bytes_4}
use Rattle.std.proofs.lemmas.List.{length-take-le, length-replicate, get_or-take, get_or-drop, drop-drop, get_or-append-add, drop_more}
use Rattle.std.proofs.lemmas.Bool.{and_parts}
use Rattle.std.proofs.lemmas.Bool.Decides.{nat_tests}
use Rattle.std.specs.Int.{w32, from_le_bytes, to_le_bytes}
use Rattle.std.specs.List.{flat_map}
use Rattle.std.specs.Simd.{first_chunks}
use Rattle.filter.specs.Filter.{padded}
use Rattle.filter.proofs.Padding.{padded_over}
use Rattle.script.specs.Script.{number_at, numbers_at}
use Rattle.script.specs.Writing.{four_bytes, small, all_small, Bytes}

-- one number more
pub numbers_more : (n : ℕ) (xs : List ℕ) (i : ℕ) → numbers_at (n + 1) xs i ≡ numbers_at n xs i ++ number_at xs (i + 4 * n) ∷ []
numbers_more zero xs i =
    let e : i + 4 * 0 ≡ i = omega arith in
    rw e
numbers_more (suc n) xs i =
    let e : i + 4 * suc n ≡ i + 4 + 4 * n = omega arith in
    let f : suc n + 1 ≡ suc (n + 1) = omega arith in
    rw (e, f) (ap (λ ys. number_at xs i ∷ ys) (numbers_more n xs (i + 4)))

-- the chunks of four bytes from a place on, as the numbers there
chunk_at : (n i : ℕ) (xs : List ℕ) → i < n → get_or (first_chunks 4 n xs) i [] ≡ take 4 (drop (4 * i) xs)
chunk_at zero i xs h = absurd (omega arith)
chunk_at (suc n) zero xs h = refl
chunk_at (suc n) (suc i) xs h =
    let r = chunk_at n i (drop 4 xs) (omega arith) in
    let d = drop-drop (4 * i) 4 xs in
    let e : 4 * suc i ≡ 4 + 4 * i = omega arith in
    cc

chunk_byte : (n i j m : ℕ) (xs : List ℕ) (at : ℕ) → i < n → j < 4 → at + (4 * i + j) ≡ m →
    get_or (take 4 (drop (4 * i) (take (4 * n) (drop at xs)))) j 0 ≡ get_or xs m 0
chunk_byte n i j m xs at h k e =
    let ys = take (4 * n) (drop at xs) in
    get_or-take 4 (drop (4 * i) ys) j 0 k
    ∙ (get_or-drop (4 * i) ys j 0
    ∙ (get_or-take (4 * n) (drop at xs) (4 * i + j) 0 (omega arith)
    ∙ (get_or-drop at xs (4 * i + j) 0 ∙ ap (λ l. get_or xs l 0) e)))

pub chunk_number : (n i : ℕ) (xs : List ℕ) (at : ℕ) → i < n → from_le_bytes w32 (get_or (first_chunks 4 n (take (4 * n) (drop at xs))) i []) ≡ number_at xs (at + 4 * i)
chunk_number n i xs at h =
    let c = chunk_at n i (take (4 * n) (drop at xs)) h in
    let m = at + 4 * i in
    let p = chunk_byte n i 0 m xs at h (omega arith) (omega arith) in
    let q = chunk_byte n i 1 (m + 1) xs at h (omega arith) (omega arith) in
    let r = chunk_byte n i 2 (m + 2) xs at h (omega arith) (omega arith) in
    let s = chunk_byte n i 3 (m + 3) xs at h (omega arith) (omega arith) in
    rw c (omega arith)

pub length_numbers : (n : ℕ) (xs : List ℕ) (i : ℕ) → length (numbers_at n xs i) ≡ n
length_numbers zero xs i = refl
length_numbers (suc n) xs i = ap suc (length_numbers n xs (i + 4))

-- read over the front of zeros they are filled up with zeros
pub read_over : (room n : ℕ) (xs : List ℕ) (at : ℕ) (read : List ℕ) → n ≤ room →
    read ≡ numbers_at (length (take n (replicate {A = ℕ} room 0))) xs at → put_mid 0 n (replicate room 0) read ≡ padded room (numbers_at n xs at)
read_over room n xs at read h e =
    let l = length_numbers n xs at in
    let p = padded_over room (numbers_at n xs at) (omega arith) in
    let t = length-take-le n (replicate {A = ℕ} room 0) (omega (arith, length-replicate {A = ℕ} room 0)) in
    cc

pub length_fours : (ns : List ℕ) → length (flat_map four_bytes ns) ≡ 4 * length ns
length_fours [] = refl
length_fours (n ∷ ns) =
    let r = length_fours ns in
    omega arith

-- a place behind a front
pub number_behind : (p ys : List ℕ) (i : ℕ) → number_at (p ++ ys) (length p + i) ≡ number_at ys i
number_behind p ys i =
    let a = get_or-append-add p ys i 0 in
    let b = get_or-append-add p ys (i + 1) 0 in
    let c = get_or-append-add p ys (i + 2) 0 in
    let d = get_or-append-add p ys (i + 3) 0 in
    let e : length p + i + 1 ≡ length p + (i + 1) = omega arith in
    let f : length p + i + 2 ≡ length p + (i + 2) = omega arith in
    let g : length p + i + 3 ≡ length p + (i + 3) = omega arith in
    cc

pub numbers_behind : (n : ℕ) (p ys : List ℕ) (i : ℕ) → numbers_at n (p ++ ys) (length p + i) ≡ numbers_at n ys i
numbers_behind zero p ys i = refl
numbers_behind (suc n) p ys i =
    let a = number_behind p ys i in
    let r = numbers_behind n p ys (i + 4) in
    let e : length p + i + 4 ≡ length p + (i + 4) = omega arith in
    cc

-- from bytes to a number and back
pub number_of_four : (n : ℕ) (ys : List ℕ) → small n ≡ true → number_at (four_bytes n ++ ys) 0 ≡ n
number_of_four n ys h = omega (arith, ltb-true)

four_is : (n : ℕ) → four_bytes n ≡ to_le_bytes w32 n
four_is n =
    let p = div-div-eq-div-mul n 256 256 in
    let q = div-div-eq-div-mul (n / 256) 256 256 in
    let r = div-div-eq-div-mul n 256 65536 in
    cc

take_four : (xs : List ℕ) (i n : ℕ) → i + 4 ≤ length xs →
    take (4 + n) (drop i xs) ≡ get_or xs i 0 ∷ get_or xs (i + 1) 0 ∷ get_or xs (i + 2) 0 ∷ get_or xs (i + 3) 0 ∷ take n (drop (i + 4) xs)
take_four xs i n h =
    let a = drop_more xs i 0 (omega arith) in
    let b = drop_more xs (i + 1) 0 (omega arith) in
    let c = drop_more xs (i + 2) 0 (omega arith) in
    let d = drop_more xs (i + 3) 0 (omega arith) in
    let e : i + 1 + 1 ≡ i + 2 = omega arith in
    let f : i + 2 + 1 ≡ i + 3 = omega arith in
    let g : i + 3 + 1 ≡ i + 4 = omega arith in
    let k : 4 + n ≡ suc (suc (suc (suc n))) = omega arith in
    cc

small_four : (a b c d : ℕ) → a < 256 → b < 256 → c < 256 → d < 256 → Bytes (a ∷ b ∷ c ∷ d ∷ [])
small_four a b c d p q r s zero = p
small_four a b c d p q r s (suc zero) = q
small_four a b c d p q r s (suc (suc zero)) = r
small_four a b c d p q r s (suc (suc (suc zero))) = s
small_four a b c d p q r s (suc (suc (suc (suc i)))) = omega arith

four_of_number : (xs : List ℕ) (i : ℕ) → Bytes xs →
    four_bytes (number_at xs i) ≡ get_or xs i 0 ∷ get_or xs (i + 1) 0 ∷ get_or xs (i + 2) 0 ∷ get_or xs (i + 3) 0 ∷ []
four_of_number xs i b =
    let n = number_at xs i in
    let four = get_or xs i 0 ∷ get_or xs (i + 1) 0 ∷ get_or xs (i + 2) 0 ∷ get_or xs (i + 3) 0 ∷ [] in
    four_is n ∙ le_bytes_4 four n refl (small_four _ _ _ _ (b i) (b (i + 1)) (b (i + 2)) (b (i + 3))) (omega arith)

pub small_number : (xs : List ℕ) (i : ℕ) → Bytes xs → small (number_at xs i) ≡ true
small_number xs i b =
    let p = b i in
    let q = b (i + 1) in
    let r = b (i + 2) in
    let s = b (i + 3) in
    grind (arith, nat_tests)

pub small_numbers : (n : ℕ) (xs : List ℕ) (i : ℕ) → Bytes xs → all_small (numbers_at n xs i) ≡ true
small_numbers zero xs i b = refl
small_numbers (suc n) xs i b = rw (small_number xs i b) (small_numbers n xs (i + 4) b)

pub numbers_of_fours : (ns ys : List ℕ) → all_small ns ≡ true → numbers_at (length ns) (flat_map four_bytes ns ++ ys) 0 ≡ ns
numbers_of_fours [] ys h = refl
numbers_of_fours (n ∷ ns) ys h =
    let (p, q) = and_parts (small n) (all_small ns) h in
    let a = number_of_four n (flat_map four_bytes ns ++ ys) p in
    let r = numbers_of_fours ns ys q in
    let s = numbers_behind (length ns) (four_bytes n) (flat_map four_bytes ns ++ ys) 0 in
    cc

-- a number and what follows, as the bytes that they were read from
pub four_then : (xs : List ℕ) (i n : ℕ) (ys : List ℕ) → Bytes xs → i + 4 ≤ length xs → ys ≡ take n (drop (i + 4) xs) → four_bytes (number_at xs i) ++ ys ≡ take (4 + n) (drop i xs)
four_then xs i n ys b h e =
    let p = four_of_number xs i b in
    let q = take_four xs i n h in
    cc

pub fours_of_numbers : (n : ℕ) (xs : List ℕ) (i : ℕ) → Bytes xs → i + 4 * n ≤ length xs → flat_map four_bytes (numbers_at n xs i) ≡ take (4 * n) (drop i xs)
fours_of_numbers zero xs i b h = refl
fours_of_numbers (suc n) xs i b h =
    let r = fours_of_numbers n xs (i + 4) b (omega arith) in
    let e : 4 * suc n ≡ 4 + 4 * n = omega arith in
    rw (e) (four_then xs i (4 * n) (flat_map four_bytes (numbers_at n xs (i + 4))) b (omega arith) r)
