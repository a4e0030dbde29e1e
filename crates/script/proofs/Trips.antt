-- Reading and writing undo each other.
use Rattle.std.proofs.Common.{◌≡◌, ℕ, suc, ◌+◌, ◌-◌, ◌*◌, ◌<◌, ◌≤◌, Bool, true, false, cond, ◌&&◌, ltb, leb, List, [], ◌∷◌, ◌++◌, length, get_or, take, drop, Some, None, Option, sym, refl, ap, ◌∙◌, arith}
use Rattle.std.specs.List.{flat_map}
use Rattle.std.proofs.lemmas.List.{get_or-append-add, get_or_at, length-append, length-take-le, take_at, drop_more}
use Rattle.std.proofs.lemmas.Bool.{and_parts}
use Rattle.std.proofs.lemmas.Bool.Decides.{nat_tests}
use Rattle.filter.specs.Filter.{padded}
use Rattle.filter.proofs.Padding.{length_padded, padded_short}
use Rattle.filter.specs.declared.value.Filter.{Filter}
use Rattle.filter.specs.declared.value.Notice.{Notice}
use Rattle.layout.specs.declared.command.Command.{Command}
use Rattle.layout.specs.declared.command.Command.TheVariants.{Join, Leave, Post, Carry}
use Rattle.script.specs.declared.fault.Fault.TheVariants.{Cut}
use Rattle.script.specs.Script.{number_at, numbers_at, size, part_at, command_at, reading, reading_kind, kind_of, first_byte, found, ended, faulty}
use Rattle.script.specs.Writing.{four_bytes, written, small, all_small, fits, Clean, Bytes, ReadsWhatWasWritten, WritesWhatWasRead}
use Rattle.script.specs.declared.kind.Kind.{Kind}
use Rattle.script.specs.declared.kind.Kind.TheVariants as kinds
use Rattle.script.proofs.Fours.{length_fours, length_numbers, number_behind, numbers_behind, number_of_four, small_number, small_numbers, numbers_of_fours, four_then, fours_of_numbers}

-- reading behind a front is reading without it
command_behind : (ranges : ℕ) (k : Kind) (p ys : List ℕ) → command_at ranges k (p ++ ys) (length p) ≡ command_at ranges k ys 0
command_behind ranges kinds.Join p ys =
    let a = get_or-append-add p ys 1 0 in
    let b = number_behind p ys 2 in
    let c = numbers_behind (2 * ranges) p ys 6 in
    cc
command_behind ranges kinds.Leave p ys =
    let a = get_or-append-add p ys 1 0 in
    let b = number_behind p ys 2 in
    cc
command_behind ranges kinds.Post p ys =
    let a = get_or-append-add p ys 1 0 in
    let b = number_behind p ys 2 in
    let c = numbers_behind ranges p ys 6 in
    cc
command_behind ranges kinds.Carry p ys =
    let a = get_or-append-add p ys 1 0 in
    let b = get_or-append-add p ys 2 0 in
    cc

-- a place is read by three tests: whether the script ends there, the kind, and whether the command is whole
reading_found : (ranges : ℕ) (xs : List ℕ) (at : ℕ) (k : Kind) → at < length xs → kind_of (get_or xs at 0) ≡ Some k → at + size ranges k ≤ length xs →
    reading ranges xs at ≡ found (command_at ranges k xs at) (at + size ranges k)
reading_found ranges xs at k p e h =
    let a : ltb at (length xs) ≡ true = grind (arith, nat_tests) in
    let b : leb (at + size ranges k) (length xs) ≡ true = grind (arith, nat_tests) in
    ap (λ t. cond t (reading_kind ranges xs at (kind_of (get_or xs at 0))) ended) a
    ∙ (ap (λ o. reading_kind ranges xs at o) e
    ∙ ap (λ t. cond t (found (command_at ranges k xs at) (at + size ranges k)) (faulty (Cut (length xs) (part_at k (length xs - at))))) b)

-- what was found, with its kind
record Whole (ranges : ℕ) (xs : List ℕ) (at : ℕ) (c : Command) (rest : ℕ) : Type 0 where
  kind : Kind
  begins : kind_of (get_or xs at 0) ≡ Some kind
  within : at + size ranges kind ≤ length xs
  is : c ≡ command_at ranges kind xs at
  ends : rest ≡ at + size ranges kind

found_whole : (ranges : ℕ) (xs : List ℕ) (at : ℕ) (c : Command) (rest : ℕ) → reading ranges xs at ≡ found c rest → Whole ranges xs at c rest
found_whole ranges xs at c rest h = first (ltb at (length xs)) refl
  where
    sized : (k : Kind) (t : Bool) → leb (at + size ranges k) (length xs) ≡ t → kind_of (get_or xs at 0) ≡ Some k →
        cond t (found (command_at ranges k xs at) (at + size ranges k)) (faulty (Cut (length xs) (part_at k (length xs - at)))) ≡ found c rest → Whole ranges xs at c rest
    sized k true e b f = record { kind = k; begins = b; within = grind (arith, nat_tests); is = cc; ends = cc }
    sized k false e b f =
        let z : ◌≡◌ {A = ℕ} 0 1 = cc in
        absurd (omega arith)

    kinded : (o : Option Kind) → kind_of (get_or xs at 0) ≡ o → reading_kind ranges xs at o ≡ found c rest → Whole ranges xs at c rest
    kinded None e f =
        let z : ◌≡◌ {A = ℕ} 0 1 = cc in
        absurd (omega arith)
    kinded (Some k) e f = sized k (leb (at + size ranges k) (length xs)) refl e f

    first : (t : Bool) → ltb at (length xs) ≡ t → Whole ranges xs at c rest
    first true e = kinded (kind_of (get_or xs at 0)) refl (sym (ap (λ t. cond t (reading_kind ranges xs at (kind_of (get_or xs at 0))) ended) e) ∙ h)
    first false e =
        let f = sym (ap (λ t. cond t (reading_kind ranges xs at (kind_of (get_or xs at 0))) ended) e) ∙ h in
        let z : ◌≡◌ {A = ℕ} 0 1 = cc in
        absurd (omega arith)

-- where a command of this kind stands behind a front, it is read
found_behind : (ranges : ℕ) (k : Kind) (b : ℕ) (p ys : List ℕ) → kind_of b ≡ Some k → size ranges k ≤ length (b ∷ ys) →
    reading ranges (p ++ (b ∷ ys)) (length p) ≡ found (command_at ranges k (b ∷ ys) 0) (length p + size ranges k)
found_behind ranges k b p ys e h =
    let l = length-append p (b ∷ ys) in
    let g = get_or_at p b ys 0 (length p) refl in
    let r = reading_found ranges (p ++ (b ∷ ys)) (length p) k (omega arith) (ap kind_of g ∙ e) (omega arith) in
    let c = command_behind ranges k p (b ∷ ys) in
    cc

-- the numbers behind a command's first six bytes
numbers_six : (n k broker number : ℕ) (ns rest : List ℕ) → length ns ≡ n → all_small ns ≡ true → numbers_at n (k ∷ broker ∷ (four_bytes number ++ (flat_map four_bytes ns ++ rest))) 6 ≡ ns
numbers_six n k broker number ns rest e s =
    let p = numbers_behind n (k ∷ broker ∷ four_bytes number) (flat_map four_bytes ns ++ rest) 0 in
    let q = numbers_of_fours ns rest s in
    cc

-- the parts being equal, so are the wholes
same_found : {c d : Command} {m n : ℕ} → c ≡ d → m ≡ n → found c m ≡ found d n
same_found p q = cc

same_join : (b : ℕ) {m n : ℕ} {xs : List ℕ} (f : Filter) → m ≡ n → xs ≡ f.bounds → Join b m (record { bounds = xs }) ≡ Join b n f
same_join b f p q =
    let g : List ℕ → Filter = λ ys. record { bounds = ys } in
    let r : g _ ≡ f = ap g q in
    cc

same_post : (b : ℕ) {m n : ℕ} {xs : List ℕ} (e : Notice) → m ≡ n → xs ≡ e.numbers → Post b m (record { numbers = xs }) ≡ Post b n e
same_post b e p q =
    let g : List ℕ → Notice = λ ys. record { numbers = ys } in
    let r : g _ ≡ e = ap g q in
    cc

pub reads_what_was_written : ReadsWhatWasWritten
reads_what_was_written ranges (Join broker number filter) front rest h t z =
    let ns = take (2 * ranges) filter.bounds in
    let (b, t') = and_parts (ltb broker 256) (small number && all_small ns) t in
    let (n, s) = and_parts (small number) (all_small ns) t' in
    let k = length_padded 16 ns in
    let l : length ns ≡ 2 * ranges = length-take-le (2 * ranges) filter.bounds (rw z (omega arith)) in
    let f = length_fours ns in
    let a = length-append (flat_map four_bytes ns) rest in
    let p = number_of_four number (flat_map four_bytes ns ++ rest) n in
    let q = numbers_six (2 * ranges) 0 broker number ns rest l s in
    let r = found_behind ranges kinds.Join 0 front (broker ∷ (four_bytes number ++ (flat_map four_bytes ns ++ rest))) refl (omega arith) in
    r ∙ same_found (same_join broker filter p (ap (padded 16) q ∙ sym z)) (omega arith)
reads_what_was_written ranges (Leave broker number) front rest h t z =
    let (b, n) = and_parts (ltb broker 256) (small number) t in
    let p = number_of_four number rest n in
    let r = found_behind ranges kinds.Leave 1 front (broker ∷ (four_bytes number ++ rest)) refl (omega arith) in
    cc
reads_what_was_written ranges (Post broker number notice) front rest h t z =
    let ns = take ranges notice.numbers in
    let (b, t') = and_parts (ltb broker 256) (small number && all_small ns) t in
    let (n, s) = and_parts (small number) (all_small ns) t' in
    let k = length_padded 8 ns in
    let l : length ns ≡ ranges = length-take-le ranges notice.numbers (rw z (omega arith)) in
    let f = length_fours ns in
    let a = length-append (flat_map four_bytes ns) rest in
    let p = number_of_four number (flat_map four_bytes ns ++ rest) n in
    let q = numbers_six ranges 2 broker number ns rest l s in
    let r = found_behind ranges kinds.Post 2 front (broker ∷ (four_bytes number ++ (flat_map four_bytes ns ++ rest))) refl (omega arith) in
    r ∙ same_found (same_post broker notice p (ap (padded 8) q ∙ sym z)) (omega arith)
reads_what_was_written ranges (Carry from to) front rest h t z = found_behind ranges kinds.Carry 3 front (from ∷ to ∷ rest) refl (omega arith)

-- a row of numbers that were read, as a filter or a notice holds it
held : (k n : ℕ) (xs : List ℕ) (i : ℕ) → n ≤ k → take n (padded k (numbers_at n xs i)) ≡ numbers_at n xs i
held k n xs i h =
    let l = length_numbers n xs i in
    let p = padded_short k (numbers_at n xs i) (omega arith) in
    ap (take n) p ∙ take_at (numbers_at n xs i) _ n l

take_two : (xs : List ℕ) (i n : ℕ) → i + 2 ≤ length xs → take (2 + n) (drop i xs) ≡ get_or xs i 0 ∷ get_or xs (i + 1) 0 ∷ take n (drop (i + 2) xs)
take_two xs i n h =
    let a = drop_more xs i 0 (omega arith) in
    let b = drop_more xs (i + 1) 0 (omega arith) in
    let e : i + 1 + 1 ≡ i + 2 = omega arith in
    let k : 2 + n ≡ suc (suc n) = omega arith in
    cc

-- the first byte of a command of a kind
begins_with : (b : ℕ) (k : Kind) → kind_of b ≡ Some k → b ≡ first_byte k
begins_with b kinds.Join e = grind (arith, nat_tests)
begins_with b kinds.Leave e = grind (arith, nat_tests)
begins_with b kinds.Post e = grind (arith, nat_tests)
begins_with b kinds.Carry e = grind (arith, nat_tests)

-- a command's first byte and its broker, before what follows
two_then : (xs : List ℕ) (at : ℕ) (k : Kind) (n : ℕ) (ys : List ℕ) → kind_of (get_or xs at 0) ≡ Some k → at + 2 ≤ length xs → ys ≡ take n (drop (at + 2) xs) →
    first_byte k ∷ get_or xs (at + 1) 0 ∷ ys ≡ take (2 + n) (drop at xs)
two_then xs at k n ys e h p =
    let q = take_two xs at n h in
    let r = begins_with (get_or xs at 0) k e in
    cc

-- and with four bytes of a number, before others of four bytes each
six_then : (xs : List ℕ) (at : ℕ) (k : Kind) (n : ℕ) (ns : List ℕ) → Bytes xs → kind_of (get_or xs at 0) ≡ Some k → at + (6 + 4 * n) ≤ length xs → ns ≡ numbers_at n xs (at + 6) →
    first_byte k ∷ get_or xs (at + 1) 0 ∷ (four_bytes (number_at xs (at + 2)) ++ flat_map four_bytes ns) ≡ take (6 + 4 * n) (drop at xs)
six_then xs at k n ns b e l p =
    let f = fours_of_numbers n xs (at + 6) b (omega arith) in
    let s : at + 2 + 4 ≡ at + 6 = omega arith in
    let g : flat_map four_bytes ns ≡ take (4 * n) (drop (at + 2 + 4) xs) = rw (p, s) f in
    let t : 6 + 4 * n ≡ 2 + (4 + 4 * n) = omega arith in
    rw t (two_then xs at k (4 + 4 * n) (four_bytes (number_at xs (at + 2)) ++ flat_map four_bytes ns) e (omega arith) (four_then xs (at + 2) (4 * n) (flat_map four_bytes ns) b (omega arith) g))

byte_tested : (xs : List ℕ) (i : ℕ) → Bytes xs → ltb (get_or xs i 0) 256 ≡ true
byte_tested xs i b =
    let p = b i in
    grind (arith, nat_tests)

both : {x y : Bool} → x ≡ true → y ≡ true → (x && y) ≡ true
both p q = cc

written_kind : (ranges : ℕ) (xs : List ℕ) (at : ℕ) (k : Kind) → ranges ≤ 8 → Bytes xs → kind_of (get_or xs at 0) ≡ Some k → at + size ranges k ≤ length xs →
    let c = command_at ranges k xs at in
    (fits ranges c ≡ true) × Clean ranges c × (written ranges c ≡ take (size ranges k) (drop at xs))
written_kind ranges xs at kinds.Join h b e l =
    let p = held 16 (2 * ranges) xs (at + 6) (omega arith) in
    let s = ap all_small p ∙ small_numbers (2 * ranges) xs (at + 6) b in
    let t : 6 + 8 * ranges ≡ 6 + 4 * (2 * ranges) = omega arith in
    (both (byte_tested xs (at + 1) b) (both (small_number xs (at + 2) b) s), sym (ap (padded 16) p), rw t (six_then xs at kinds.Join (2 * ranges) _ b e (omega arith) p))
written_kind ranges xs at kinds.Leave h b e l =
    (both (byte_tested xs (at + 1) b) (small_number xs (at + 2) b), tt, six_then xs at kinds.Leave 0 [] b e (omega arith) refl)
written_kind ranges xs at kinds.Post h b e l =
    let p = held 8 ranges xs (at + 6) h in
    let s = ap all_small p ∙ small_numbers ranges xs (at + 6) b in
    (both (byte_tested xs (at + 1) b) (both (small_number xs (at + 2) b) s), sym (ap (padded 8) p), six_then xs at kinds.Post ranges _ b e (omega arith) p)
written_kind ranges xs at kinds.Carry h b e l =
    let d = drop_more xs (at + 2) 0 (omega arith) in
    (both (byte_tested xs (at + 1) b) (byte_tested xs (at + 2) b), tt, two_then xs at kinds.Carry 1 (get_or xs (at + 2) 0 ∷ []) e (omega arith) (rw d))

pub writes_what_was_read : WritesWhatWasRead
writes_what_was_read ranges xs at c rest h b e =
    let w = found_whole ranges xs at c rest e in
    let p = written_kind ranges xs at w.kind h b w.begins w.within in
    let s : rest - at ≡ size ranges w.kind = omega (arith, w.ends) in
    rw (w.is, s) p
