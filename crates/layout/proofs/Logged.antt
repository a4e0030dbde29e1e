-- Parts that only grow: what they are read as, and what they hold after one row more, or several.
use Rattle.std.proofs.Common.{◌≡◌, ℕ, zero, suc, ◌+◌, ◌-◌, ◌*◌, ◌<◌, ◌≤◌, ◌||◌, eqb, List, [], ◌∷◌, ◌++◌, map, reverse, length, get_or, take, drop, replicate, sym, refl, ap, ◌∙◌, arith}
use Rattle.std.specs.List.{list_any}
use Rattle.std.proofs.lemmas.List.{append_assoc, append-nil, get_or-drop, get_or-map, get_or-take, length-append, length-drop, length-map, length-reverse, length_push, length-take-le, map-append, map_push, reverse-append, reverse-reverse, take_more}
use Rattle.cover.specs.Maximal.{among}
use Rattle.cover.specs.Table.{Wide, rows, held, stored}
use Rattle.cover.proofs.RowLaws.{get_d_rows}
use Rattle.cover.proofs.TableLaws.{length_held, wide_cons, wide_held, held_stored, held_laid, laid_none, length_laid, getD_laid, getD_stored, stored_same, stored_on, stored_laid}
use Rattle.broker.proofs.Gathered.{wide_append}
use Rattle.model.specs.Model.{Delivery}
use Rattle.model.specs.Tree.{has}
use Rattle.model.proofs.Tree.{has_append}
use Rattle.layout.specs.Logs.{number_row, number_of, numbers, Lists, delivery_row, delivery_of, deliveries, Delivers, all_to, delivery_in}

wide_none : (w : ℕ) → Wide w []
unfolding among
wide_none w = λ x m. absurd (grind arith)

-- the rows of numbers have one word, and read again they are the numbers
wide_numbers : (ks : List ℕ) → Wide 1 (map number_row ks)
wide_numbers [] = wide_none 1
wide_numbers (k ∷ ks) = wide_cons 1 (number_row k) (map number_row ks) refl (wide_numbers ks)

numbers_back : (ks : List ℕ) → map number_of (map number_row ks) ≡ ks
numbers_back [] = refl
numbers_back (k ∷ ks) = ap (λ ys. k ∷ ys) (numbers_back ks)

pub lists_read : (ks ws : List ℕ) → Lists ks ws → numbers ws ≡ ks
unfolding numbers
lists_read ks ws h =
    let a = held_laid 1 4097 (map number_row (reverse ks)) (wide_numbers (reverse ks)) in
    rw (h.words, a, numbers_back (reverse ks)) (reverse-reverse ks)

-- as many rows as numbers
number_rows : (ks : List ℕ) → length (map number_row (reverse ks)) ≡ length ks
number_rows ks = length-map (reverse ks) number_row ∙ length-reverse ks

pub lists_length : (ks ws : List ℕ) → Lists ks ws → length ws ≡ 4097
lists_length ks ws h =
    let n = number_rows ks in
    let f = h.fits in
    ap length h.words ∙ length_laid 1 4097 (map number_row (reverse ks)) (wide_numbers (reverse ks)) (omega arith)

pub lists_count : (ks ws : List ℕ) → Lists ks ws → get_or ws 0 0 ≡ length ks
lists_count ks ws h = ap (λ v. get_or v 0 0) h.words ∙ (getD_laid 1 4097 (map number_row (reverse ks)) ∙ number_rows ks)

-- a cleared part lists nothing
pub lists_none : Lists [] (replicate 4097 0)
lists_none = record { words = sym (laid_none 1 4097 (omega arith)); fits = omega arith }

-- the same for deliveries
wide_deliveries : (hs : List Delivery) → Wide 2 (map delivery_row hs)
wide_deliveries [] = wide_none 2
wide_deliveries (h ∷ hs) = wide_cons 2 (delivery_row h) (map delivery_row hs) refl (wide_deliveries hs)

deliveries_back : (hs : List Delivery) → map delivery_of (map delivery_row hs) ≡ hs
deliveries_back [] = refl
deliveries_back (h ∷ hs) = ap (λ ys. h ∷ ys) (deliveries_back hs)

pub delivers_read : (hs : List Delivery) (ws : List ℕ) → Delivers hs ws → deliveries ws ≡ hs
unfolding deliveries
delivers_read hs ws h =
    let a = held_laid 2 131073 (map delivery_row hs) (wide_deliveries hs) in
    rw (h.words, a) (deliveries_back hs)

pub delivers_length : (hs : List Delivery) (ws : List ℕ) → Delivers hs ws → length ws ≡ 131073
delivers_length hs ws h =
    let n = length-map hs delivery_row in
    let f = h.fits in
    ap length h.words ∙ length_laid 2 131073 (map delivery_row hs) (wide_deliveries hs) (omega arith)

pub delivers_count : (hs : List Delivery) (ws : List ℕ) → Delivers hs ws → get_or ws 0 0 ≡ length hs
delivers_count hs ws h = ap (λ v. get_or v 0 0) h.words ∙ (getD_laid 2 131073 (map delivery_row hs) ∙ length-map hs delivery_row)

pub delivers_none : Delivers [] (replicate 131073 0)
delivers_none = record { words = sym (laid_none 2 131073 (omega arith)); fits = omega arith }

-- a number more
pub noted : (ks ws new : List ℕ) (k : ℕ) → Lists ks ws → get_or ws 0 0 < 4096 → new ≡ stored 1 (held 1 ws ++ number_row k ∷ []) ws → Lists (k ∷ ks) new
noted ks ws new k h l e =
    let n = number_rows ks in
    let c = lists_count ks ws h in
    let a = held_laid 1 4097 (map number_row (reverse ks)) (wide_numbers (reverse ks)) in
    let s = stored_laid 1 4097 (map number_row (reverse ks)) (map number_row (reverse ks) ++ number_row k ∷ []) (wide_numbers (reverse ks)) (omega arith) in
    let r = reverse-append (k ∷ []) ks in
    let m = map-append number_row (reverse ks) (k ∷ []) in
    record { words = e ∙ rw (h.words, a, s, r, m) refl; fits = omega arith }

-- a word of a row
row_word : (w i j : ℕ) (ws : List ℕ) → j < w → get_or (take w (drop (w * i) (drop 1 ws))) j 0 ≡ get_or ws (1 + (w * i + j)) 0
row_word w i j ws h = get_or-take w (drop (w * i) (drop 1 ws)) j 0 h ∙ (get_or-drop (w * i) (drop 1 ws) j 0 ∙ get_or-drop 1 ws (w * i + j) 0)

has_reverse : (ks : List ℕ) (k : ℕ) → has (reverse ks) k ≡ has ks k
unfolding has
has_reverse [] k = refl
has_reverse (j ∷ ks) k =
    let r = reverse-append (j ∷ []) ks in
    let a = has_append (reverse ks) (j ∷ []) k in
    let i = has_reverse ks k in
    rw (r, a, i) (grind arith)

has_any : (ks : List ℕ) (k : ℕ) → has ks k ≡ list_any (λ j. eqb j k) ks
unfolding has
has_any [] k = refl
has_any (j ∷ ks) k = ap (λ b. eqb j k || b) (has_any ks k)

-- the rows of one word are the words
rows_single : (n : ℕ) (xs : List ℕ) → n ≤ length xs → map number_of (rows 1 n xs) ≡ take n xs
unfolding rows
rows_single zero xs h = refl
rows_single (suc n) [] h = absurd (omega arith)
rows_single (suc n) (x ∷ xs) h = ap (λ ys. x ∷ ys) (rows_single n xs (omega arith))

-- a number is listed if one of the words that are in use is that number
pub listed : (ws : List ℕ) (k : ℕ) → 1 + get_or ws 0 0 ≤ length ws → list_any (λ j. eqb j k) (take (1 + get_or ws 0 0 - 1) (drop 1 ws)) ≡ has (numbers ws) k
unfolding numbers held
listed ws k h =
    let e : 1 + get_or ws 0 0 - 1 ≡ get_or ws 0 0 = omega arith in
    let r = rows_single (get_or ws 0 0) (drop 1 ws) (omega (arith, length-drop 1 ws)) in
    let s = has_reverse (map number_of (rows 1 (get_or ws 0 0) (drop 1 ws))) k in
    rw e (sym (s ∙ ap (λ ks. has ks k) r ∙ has_any (take (get_or ws 0 0) (drop 1 ws)) k))

-- deliveries more: none, and one on
pub delivered_none : (ws : List ℕ) (k : ℕ) (ns : List ℕ) → 0 < length ws → ws ≡ stored 2 (held 2 ws ++ map delivery_row (all_to k (take 0 ns))) ws
delivered_none ws k ns h = rw (append-nil (held 2 ws)) (sym (stored_same 2 ws h))

all_to_length : (k : ℕ) (ns : List ℕ) → length (map delivery_row (all_to k ns)) ≡ length ns
all_to_length k ns = length-map (all_to k ns) delivery_row ∙ length-map ns (λ n. record { what = k; whom = n })

pub delivered_count : (ws cur ns : List ℕ) (k i : ℕ) → i ≤ length ns → cur ≡ stored 2 (held 2 ws ++ map delivery_row (all_to k (take i ns))) ws → get_or cur 0 0 ≡ get_or ws 0 0 + i
delivered_count ws cur ns k i h e =
    let a = ap (λ v. get_or v 0 0) e ∙ getD_stored 2 (held 2 ws ++ map delivery_row (all_to k (take i ns))) ws in
    let b = length-append (held 2 ws) (map delivery_row (all_to k (take i ns))) in
    let c = length_held 2 ws in
    let d = all_to_length k (take i ns) ∙ length-take-le i ns h in
    omega arith

pub delivered_more : (ws cur new ns : List ℕ) (k i : ℕ) → 1 + 2 * get_or ws 0 0 ≤ length ws → i < length ns →
    cur ≡ stored 2 (held 2 ws ++ map delivery_row (all_to k (take i ns))) ws → new ≡ stored 2 (held 2 cur ++ (k ∷ get_or ns i 0 ∷ []) ∷ []) cur →
    new ≡ stored 2 (held 2 ws ++ map delivery_row (all_to k (take (i + 1) ns))) ws
delivered_more ws cur new ns k i h l e g =
    let rs = map delivery_row (all_to k (take i ns)) in
    let row = k ∷ get_or ns i 0 ∷ [] in
    let wide = wide_append 2 (held 2 ws) rs (wide_held 2 ws h) (wide_deliveries (all_to k (take i ns))) in
    let a = held_stored 2 (held 2 ws ++ rs) ws wide in
    let b = length-append (held 2 ws) rs in
    let c = length_held 2 ws in
    let d = length_push (held 2 ws ++ rs) row in
    let o = stored_on 2 ((held 2 ws ++ rs) ++ row ∷ []) (held 2 ws ++ rs) ws (omega arith) (omega arith) wide in
    let t = take_more ns i 0 l in
    let m = map_push {Y = Delivery} (λ n. record { what = k; whom = n }) (take i ns) (get_or ns i 0) in
    let p = map_push delivery_row (all_to k (take i ns)) (record { what = k; whom = get_or ns i 0 }) in
    let q = append_assoc (held 2 ws) rs (row ∷ []) in
    g ∙ rw (e, a, o, q, t, m, p) refl

pub delivered_holds : (hs : List Delivery) (ws new ns : List ℕ) (k : ℕ) → Delivers hs ws → get_or ws 0 0 + length ns ≤ 65536 →
    new ≡ stored 2 (held 2 ws ++ map delivery_row (all_to k ns)) ws → Delivers (hs ++ all_to k ns) new
delivered_holds hs ws new ns k h b e =
    let c = delivers_count hs ws h in
    let n = length-map hs delivery_row in
    let o = length-map (all_to k ns) delivery_row in
    let p = all_to_length k ns in
    let a = held_laid 2 131073 (map delivery_row hs) (wide_deliveries hs) in
    let s = stored_laid 2 131073 (map delivery_row hs) (map delivery_row hs ++ map delivery_row (all_to k ns)) (wide_deliveries hs) (omega arith) in
    let m = map-append delivery_row hs (all_to k ns) in
    record { words = e ∙ rw (h.words, a, s, m) refl; fits = omega (arith, length-append hs (all_to k ns)) }

-- how many deliveries there are, and each of them
pub deliveries_count : (ws : List ℕ) → length (deliveries ws) ≡ get_or ws 0 0
unfolding deliveries
deliveries_count ws = length-map (held 2 ws) delivery_of ∙ length_held 2 ws

pub delivery_is : (ws : List ℕ) (i : ℕ) → i < get_or ws 0 0 → delivery_in (deliveries ws) i ≡ record { what = get_or ws (1 + 2 * i) 0; whom = get_or ws (2 + 2 * i) 0 }
unfolding deliveries held
delivery_is ws i h =
    let l = length_held 2 ws in
    let a = get_or-map delivery_of (held 2 ws) i [] (record { what = 0; whom = 0 }) (omega arith) in
    let b = get_d_rows 2 (get_or ws 0 0) i (drop 1 ws) h in
    let x = row_word 2 i 0 ws (omega arith) in
    let y = row_word 2 i 1 ws (omega arith) in
    let d : 1 + (2 * i + 0) ≡ 1 + 2 * i = omega arith in
    let e : 1 + (2 * i + 1) ≡ 2 + 2 * i = omega arith in
    a ∙ (ap delivery_of b ∙ rw (x, y, d, e) refl)
