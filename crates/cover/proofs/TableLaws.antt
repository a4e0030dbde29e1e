-- Tables in words: what a table holds after filters were stored in it, and that storing forgets what was stored before.
use Rattle.std.proofs.Common.{◌≡◌, ℕ, zero, suc, ◌+◌, ◌-◌, ◌*◌, ◌<◌, ◌≤◌, true, false, List, [], ◌∷◌, ◌++◌, length, get_or, take, drop, set, replicate, sym, refl, ap, ◌∙◌, ⊎_elim, mul-le-mul_left, mul-zero, mul-suc, arith}
use native.Mathlib.Nat.{mul-sub}
use borrow.Rule.Slice.PartMut.{put_mid}
use Rattle.std.proofs.lemmas.List.{append-nil, append_assoc, length-append, length-drop, length_push, length-take-le, length-replicate, drop-drop, drop_at, drop_all, drop-append-le, drop-replicate, take_rest, take-append-drop, replicate-append-replicate}
use Rattle.std.proofs.lemmas.List.Edits.{length-insert as length_inserted, length-remove}
use Rattle.std.proofs.lemmas.Bool.{cases_lt}
use Rattle.std.specs.List.{insert as inserted, remove}
use Rattle.filter.specs.Filter.{Filter}
use Rattle.filter.proofs.Laws.{same_tells}
use Rattle.cover.specs.Maximal.{among, put, without, outside, insert, any_covers, maximal, minus, ordered, uncovered}
use Rattle.cover.specs.Table.{rows, written, Wide, held, blanked, stored, changed, laid, inserted_all}
use Rattle.cover.specs.Rows.{listed}
use Rattle.cover.specs.declared.rows.Rows.{Rows}
use Rattle.cover.proofs.Keeping.{Picked, yet_to_come}
use Rattle.cover.proofs.Members.{among_append, among_put, among_minus}
use Rattle.cover.proofs.Order.{among_without_part}
use Rattle.cover.proofs.Maximals.{among_outside, among_insert, maximal_member, maximal_push}
use Rattle.cover.proofs.RowLaws.{length_rows, row_fits, wide_head, wide_tail, rows_written, written_rows, length_written, written_append, next}

-- the words past the count, as they are lent
pub held_part : (w : ℕ) (t : List ℕ) → rows w (get_or t 0 0) (take (length t - 1) (drop 1 t)) ≡ held w t
unfolding held
held_part w t = ap (rows w (get_or t 0 0)) (take_rest t 1)

pub length_held : (w : ℕ) (t : List ℕ) → length (held w t) ≡ get_or t 0 0
unfolding held
length_held w t = length_rows w (get_or t 0 0) (drop 1 t)

-- the words past the count written anew
pub relaid : (t ys : List ℕ) → 0 < length t → put_mid 1 (length t - 1) t ys ≡ get_or t 0 0 ∷ ys
relaid [] ys h = absurd (omega arith)
relaid (x ∷ xs) ys h =
    let d = drop_all (length (x ∷ xs) - 1) xs (omega arith) in
    rw d (ap (λ zs. x ∷ zs) (append-nil ys))

-- words past the first a, of which c were in use: those that are freed are zero
blanked_below : (xs : List ℕ) (a c : ℕ) → a ≤ c → blanked (c - a) (drop a xs) ≡ replicate (c - a) 0 ++ drop c xs
blanked_below xs a c h =
    let d = drop-drop (c - a) a xs in
    let e : a + (c - a) ≡ c = omega arith in
    rw (d, e) refl

blanked_above : (xs : List ℕ) (a c : ℕ) → c ≤ a → blanked (c - a) xs ≡ xs
blanked_above xs a c h =
    let z : c - a ≡ 0 = omega arith in
    rw z refl

blanked_none : (k a : ℕ) → blanked k (drop a []) ≡ replicate k 0
blanked_none k a =
    let d = drop_all {X = ℕ} a [] (omega arith) in
    let e = drop_all {X = ℕ} k [] (omega arith) in
    rw (d, e) (append-nil (replicate k 0))

-- more words dropped than the first of two lists has
drop_past : (xs ys : List ℕ) (m n : ℕ) → length xs ≡ m → m ≤ n → drop n (xs ++ ys) ≡ drop (n - m) ys
drop_past xs ys m n l h =
    let d = drop-drop (n - m) m (xs ++ ys) in
    let e : m + (n - m) ≡ n = omega arith in
    let a = drop_at xs ys m l in
    rw e at (sym d) ∙ ap (drop (n - m)) a

-- of c words in use b stay, and then a: what is freed is zero in the end, whatever stood in between
blanked_again : (front rest : List ℕ) (a b c : ℕ) → length front ≡ b → b ≤ c → blanked (b - a) (drop a (front ++ blanked (c - b) (drop b rest))) ≡ blanked (c - a) (drop a rest)
blanked_again front rest a b c l h = rw (blanked_below rest b c h) (⊎_elim few (λ m. ⊎_elim (some (omega arith)) many (cases_lt a (suc c))) (cases_lt a (suc b)))
  where
    few : a < suc b → blanked (b - a) (drop a (front ++ (replicate (c - b) 0 ++ drop c rest))) ≡ blanked (c - a) (drop a rest)
    few m =
        let s = blanked_below (front ++ (replicate (c - b) 0 ++ drop c rest)) a b (omega arith) in
        let d = drop_at front (replicate (c - b) 0 ++ drop c rest) b l in
        let t = append_assoc (replicate (b - a) 0) (replicate (c - b) 0) (drop c rest) in
        let r = replicate-append-replicate {A = ℕ} (b - a) (c - b) 0 in
        let e : b - a + (c - b) ≡ c - a = omega arith in
        rw (s, d, ← t, r, e, blanked_below rest a c (omega arith)) refl

    some : b ≤ a → a < suc c → blanked (b - a) (drop a (front ++ (replicate (c - b) 0 ++ drop c rest))) ≡ blanked (c - a) (drop a rest)
    some m n =
        let s = blanked_above (drop a (front ++ (replicate (c - b) 0 ++ drop c rest))) a b m in
        let d = drop_past front (replicate (c - b) 0 ++ drop c rest) b a l m in
        let z = length-replicate {A = ℕ} (c - b) 0 in
        let t = drop-append-le (a - b) (replicate (c - b) 0) (drop c rest) (omega arith) in
        let r = drop-replicate {X = ℕ} (a - b) (c - b) 0 in
        let e : c - b - (a - b) ≡ c - a = omega arith in
        rw (s, d, t, r, e, blanked_below rest a c (omega arith)) refl

    many : suc c ≤ a → blanked (b - a) (drop a (front ++ (replicate (c - b) 0 ++ drop c rest))) ≡ blanked (c - a) (drop a rest)
    many m =
        let s = blanked_above (drop a (front ++ (replicate (c - b) 0 ++ drop c rest))) a b (omega arith) in
        let d = drop_past front (replicate (c - b) 0 ++ drop c rest) b a l (omega arith) in
        let z = length-replicate {A = ℕ} (c - b) 0 in
        let t = drop_past (replicate (c - b) 0) (drop c rest) (c - b) (a - b) z (omega arith) in
        let r = drop-drop (a - b - (c - b)) c rest in
        let e : c + (a - b - (c - b)) ≡ a = omega arith in
        rw (s, d, t, r, e, blanked_above (drop a rest) a c (omega arith)) refl

-- stored filters, by words
pub stored_is : (w : ℕ) (fs : List Filter) (t : List ℕ) → stored w fs t ≡ length fs ∷ (written fs ++ blanked (w * get_or t 0 0 - w * length fs) (drop (w * length fs) (drop 1 t)))
unfolding stored
stored_is w fs t =
    let m = mul-sub w (get_or t 0 0) (length fs) in
    let b = drop-drop (w * length fs) 1 t in
    rw (m, b) refl

-- fewer filters than there were, and more
pub stored_less : (w : ℕ) (fs : List Filter) (t : List ℕ) → length fs ≤ get_or t 0 0 →
    stored w fs t ≡ length fs ∷ (written fs ++ (replicate (w * get_or t 0 0 - w * length fs) 0 ++ drop (w * get_or t 0 0) (drop 1 t)))
stored_less w fs t h = rw (stored_is w fs t, blanked_below (drop 1 t) (w * length fs) (w * get_or t 0 0) (mul-le-mul_left w h)) refl

pub stored_more : (w : ℕ) (fs : List Filter) (t : List ℕ) → get_or t 0 0 ≤ length fs → stored w fs t ≡ length fs ∷ (written fs ++ drop (w * length fs) (drop 1 t))
stored_more w fs t h = rw (stored_is w fs t, blanked_above (drop (w * length fs) (drop 1 t)) (w * length fs) (w * get_or t 0 0) (mul-le-mul_left w h)) refl

-- the same filters again
pub stored_same : (w : ℕ) (t : List ℕ) → 0 < length t → stored w (held w t) t ≡ t
unfolding held
stored_same w [] h = absurd (omega arith)
stored_same w (x ∷ xs) h =
    let l = length_rows w x xs in
    let s = stored_more w (rows w x xs) (x ∷ xs) (omega arith) in
    let r = written_rows w x xs in
    let a = take-append-drop (w * x) xs in
    rw (s, l, r, a) refl

-- what was stored is held
pub held_stored : (w : ℕ) (fs : List Filter) (t : List ℕ) → Wide w fs → held w (stored w fs t) ≡ fs
unfolding held stored
held_stored w fs t h = rows_written w fs _ h

-- storing fewer, and then others, is storing the others
pub stored_stored : (w : ℕ) (fs gs : List Filter) (t : List ℕ) → length gs ≤ get_or t 0 0 → Wide w gs → stored w fs (stored w gs t) ≡ stored w fs t
stored_stored w fs gs t h wide =
    let s = stored_is w gs t in
    let u = stored_is w fs (length gs ∷ (written gs ++ blanked (w * get_or t 0 0 - w * length gs) (drop (w * length gs) (drop 1 t)))) in
    let b = blanked_again (written gs) (drop 1 t) (w * length fs) (w * length gs) (w * get_or t 0 0) (length_written w gs wide) (mul-le-mul_left w h) in
    rw (s, u, b, stored_is w fs t) refl

-- storing more than there was, and then more than that, is storing the last
pub stored_on : (w : ℕ) (fs gs : List Filter) (t : List ℕ) → get_or t 0 0 ≤ length gs → length gs ≤ length fs → Wide w gs → stored w fs (stored w gs t) ≡ stored w fs t
stored_on w fs gs t a b wide =
    let s = stored_more w gs t a in
    let c : get_or t 0 0 ≤ length fs = omega arith in
    let u = stored_more w fs (length gs ∷ (written gs ++ drop (w * length gs) (drop 1 t))) b in
    let m = mul-le-mul_left w b in
    let p = drop_past (written gs) (drop (w * length gs) (drop 1 t)) (w * length gs) (w * length fs) (length_written w gs wide) m in
    let d = drop-drop (w * length fs - w * length gs) (w * length gs) (drop 1 t) in
    let e : w * length gs + (w * length fs - w * length gs) ≡ w * length fs = omega arith in
    rw (s, u, p, d, e, stored_more w fs t c) refl

-- rows that lie within the words have their width
pub wide_rows : (w n : ℕ) (xs : List ℕ) → w * n ≤ length xs → Wide w (rows w n xs)
unfolding rows among
wide_rows w zero xs h = λ f m. absurd (grind arith)
wide_rows w (suc n) xs h =
    let k : w + w * n ≤ length xs = omega (arith, mul-suc w n) in
    let r = wide_rows w n (drop w xs) (omega (arith, length-drop w xs)) in
    let l = length-take-le w xs (omega arith) in
    λ f m. let p = r f in grind (arith, same_tells)

pub wide_part : (w : ℕ) (fs gs : List Filter) → ((f : Filter) → among f fs ≡ true → among f gs ≡ true) → Wide w gs → Wide w fs
wide_part w fs gs part h = λ f m. h f (part f m)

pub wide_cons : (w : ℕ) (f : Filter) (gs : List Filter) → length f ≡ w → Wide w gs → Wide w (f ∷ gs)
unfolding among
wide_cons w f gs l h = λ x m.
    let p = h x in
    grind (arith, same_tells)

pub wide_push : (w : ℕ) (f : Filter) (gs : List Filter) → length f ≡ w → Wide w gs → Wide w (gs ++ f ∷ [])
unfolding among
wide_push w f gs l h = λ x m.
    let a = among_append x gs (f ∷ []) in
    let p = h x in
    grind (arith, same_tells)

pub wide_put : (w : ℕ) (f : Filter) (gs : List Filter) → length f ≡ w → Wide w gs → Wide w (put f gs)
wide_put w f gs l h = λ x m.
    let a = among_put x f gs in
    let p = h x in
    grind (arith, same_tells)

pub wide_without : (w : ℕ) (f : Filter) (gs : List Filter) → Wide w gs → Wide w (without f gs)
wide_without w f gs h = wide_part w (without f gs) gs (λ x m. among_without_part x f gs m) h

pub wide_outside : (w : ℕ) (f : Filter) (gs : List Filter) → Wide w gs → Wide w (outside f gs)
wide_outside w f gs h = wide_part w (outside f gs) gs (λ x m. let a = among_outside x f gs in grind arith) h

pub wide_minus : (w : ℕ) (fs gs : List Filter) → Wide w fs → Wide w (minus fs gs)
wide_minus w fs gs h = wide_part w (minus fs gs) fs (λ x m. let a = among_minus x fs gs in grind arith) h

pub wide_insert : (w : ℕ) (f : Filter) (gs : List Filter) → length f ≡ w → Wide w gs → Wide w (insert f gs)
wide_insert w f gs l h = λ x m.
    let a = among_insert x f gs in
    let p = h x in
    grind (arith, same_tells)

pub length_put : (f : Filter) (gs : List Filter) → length (put f gs) ≤ suc (length gs)
unfolding put
length_put f [] = omega arith
length_put f (g ∷ gs) =
    let r = length_put f gs in
    grind arith

pub length_minus : (fs gs : List Filter) → length (minus fs gs) ≤ length fs
unfolding minus
length_minus [] gs = omega arith
length_minus (f ∷ fs) gs =
    let r = length_minus fs gs in
    grind arith

pub length_outside : (f : Filter) (gs : List Filter) → length (outside f gs) ≤ length gs
unfolding outside
length_outside f [] = omega arith
length_outside f (g ∷ gs) =
    let r = length_outside f gs in
    grind arith

pub length_insert : (f : Filter) (gs : List Filter) → length (insert f gs) ≤ suc (length gs)
unfolding insert
length_insert f gs =
    let a = length_outside f gs in
    let b = length_put f (outside f gs) in
    grind arith

-- a table with one filter more
pub stored_inserted : (w : ℕ) (t ys : List ℕ) (at : ℕ) (f : Filter) → 0 < length t → at ≤ get_or t 0 0 →
    ys ≡ written (inserted (held w t) at f) ++ drop (w * get_or t 0 0 + w) (drop 1 t) →
    set (put_mid 1 (length t - 1) t ys) 0 (get_or (put_mid 1 (length t - 1) t ys) 0 0 + 1) ≡ stored w (inserted (held w t) at f) t
stored_inserted w t ys at f h b y =
    let r = relaid t ys h in
    let l = length_held w t in
    let k = length_inserted (held w t) at f (omega arith) in
    let s = stored_more w (inserted (held w t) at f) t (omega arith) in
    let n : length (inserted (held w t) at f) ≡ get_or t 0 0 + 1 = omega arith in
    let m : w * (get_or t 0 0 + 1) ≡ w * get_or t 0 0 + w = next w (get_or t 0 0) in
    rw (r, s, n, m, y) refl

-- a row written behind the others
pub stored_pushed : (w : ℕ) (t row : List ℕ) → 0 < length t → set (put_mid (1 + w * get_or t 0 0) w t row) 0 (get_or t 0 0 + 1) ≡ stored w (held w t ++ row ∷ []) t
unfolding held written
stored_pushed w [] row h = absurd (omega arith)
stored_pushed w (n ∷ xs) row h =
    let l = length_held w (n ∷ xs) in
    let k = length_push (rows w n xs) row in
    let s = stored_more w (rows w n xs ++ row ∷ []) (n ∷ xs) (omega arith) in
    let e : length (rows w n xs ++ row ∷ []) ≡ n + 1 = omega arith in
    let a = written_append (rows w n xs) (row ∷ []) in
    let b = append-nil row in
    let r = written_rows w n xs in
    let o : 1 + w * n ≡ suc (w * n) = omega arith in
    let d = drop-drop w (w * n) xs in
    let m = next w n in
    let c = append_assoc (take (w * n) xs) row (drop (w * n + w) xs) in
    rw (s, e, a, b, r, m, o, d) (ap (λ ys. (n + 1) ∷ ys) (sym c))

-- a table with one filter less
pub stored_removed : (w : ℕ) (t ys : List ℕ) (at : ℕ) → 0 < length t → at < get_or t 0 0 →
    ys ≡ written (remove (held w t) at) ++ (replicate w 0 ++ drop (w * get_or t 0 0) (drop 1 t)) →
    set (put_mid 1 (length t - 1) t ys) 0 (get_or (put_mid 1 (length t - 1) t ys) 0 0 - 1) ≡ stored w (remove (held w t) at) t
stored_removed w t ys at h b y =
    let r = relaid t ys h in
    let l = length_held w t in
    let k = length-remove (held w t) at (omega arith) in
    let s = stored_less w (remove (held w t) at) t (omega arith) in
    let n : length (remove (held w t) at) ≡ get_or t 0 0 - 1 = omega arith in
    let e : get_or t 0 0 - 1 + 1 ≡ get_or t 0 0 = omega arith in
    let m = next w (get_or t 0 0 - 1) in
    let z : w * get_or t 0 0 - w * (get_or t 0 0 - 1) ≡ w = omega (arith, ap (λ x. w * x) e) in
    rw (r, s, n, z, y) refl

-- a table with the filters that are left of it
pub stored_left : (w : ℕ) (fs : List Filter) (t ys : List ℕ) → 0 < length t → length fs ≤ get_or t 0 0 →
    ys ≡ written fs ++ (replicate (w * get_or t 0 0 - w * length fs) 0 ++ drop (w * get_or t 0 0) (drop 1 t)) →
    set (put_mid 1 (length t - 1) t ys) 0 (length fs) ≡ stored w fs t
stored_left w fs t ys h b y =
    let r = relaid t ys h in
    let s = stored_less w fs t b in
    rw (r, s, y) refl

pub wide_held : (w : ℕ) (t : List ℕ) → 1 + w * get_or t 0 0 ≤ length t → Wide w (held w t)
unfolding held
wide_held w t h = wide_rows w (get_or t 0 0) (drop 1 t) (omega (arith, length-drop 1 t))

-- what f does not cover stored, and then f put in
pub stored_insert : (w : ℕ) (f : Filter) (t : List ℕ) → 1 + w * get_or t 0 0 ≤ length t → any_covers (held w t) f ≡ false →
    stored w (put f (held w (stored w (outside f (held w t)) t))) (stored w (outside f (held w t)) t) ≡ stored w (insert f (held w t)) t
unfolding insert
stored_insert w f t h n =
    let v = wide_outside w f (held w t) (wide_held w t h) in
    let s = held_stored w (outside f (held w t)) t v in
    let a = length_outside f (held w t) in
    let l = length_held w t in
    let r = stored_stored w (put f (outside f (held w t))) (outside f (held w t)) t (omega arith) v in
    rw (s, n) r

pub length_stored : (w : ℕ) (fs : List Filter) (t : List ℕ) → Wide w fs → 1 + w * get_or t 0 0 ≤ length t → 1 + w * length fs ≤ length t → length (stored w fs t) ≡ length t
length_stored w fs t h a b = ⊎_elim less more (cases_lt (length fs) (get_or t 0 0))
  where
    less : length fs < get_or t 0 0 → length (stored w fs t) ≡ length t
    less c =
        let l = length_written w fs h in
        let fewer : length fs ≤ get_or t 0 0 = omega arith in
        let m = mul-le-mul_left w fewer in
        rw (stored_less w fs t fewer) (simp (length-append, length-replicate, length-drop) (omega arith))

    more : get_or t 0 0 ≤ length fs → length (stored w fs t) ≡ length t
    more c =
        let l = length_written w fs h in
        rw (stored_more w fs t c) (simp (length-append, length-drop) (omega arith))

-- after f's covered ones are gone there is room for f if there was
pub room_left : (w : ℕ) (f : Filter) (t s : List ℕ) → s ≡ stored w (outside f (held w t)) t → length s ≡ length t → 1 + (w * get_or t 0 0 + w) ≤ length t → 1 + (w * get_or s 0 0 + w) ≤ length s
unfolding stored
room_left w f t s e l h =
    let g : get_or s 0 0 ≡ length (outside f (held w t)) = ap (λ xs. get_or xs 0 0) e in
    let o = length_outside f (held w t) in
    let n = length_held w t in
    let b : get_or s 0 0 ≤ get_or t 0 0 = omega arith in
    omega (arith, mul-le-mul_left w b)

pub getD_stored : (w : ℕ) (fs : List Filter) (t : List ℕ) → get_or (stored w fs t) 0 0 ≡ length fs
unfolding stored
getD_stored w fs t = refl

-- a pass that inserts, one row on
pub inserted_one : (w : ℕ) (f : Filter) (rest fs : List Filter) (t : List ℕ) → fs ≡ f ∷ rest → inserted_all w rest (stored w (insert f (held w t)) t) ≡ inserted_all w fs t
unfolding inserted_all
inserted_one w f rest fs t e = rw e refl

pub inserted_none : (w : ℕ) (fs : List Filter) (t : List ℕ) → fs ≡ [] → t ≡ inserted_all w fs t
unfolding inserted_all
inserted_none w fs t e = rw e refl

pub held_laid : (w n : ℕ) (fs : List Filter) → Wide w fs → held w (laid w n fs) ≡ fs
unfolding held laid
held_laid w n fs h = rows_written w fs _ h

pub laid_none : (w n : ℕ) → 0 < n → laid w n [] ≡ replicate n 0
unfolding laid written
laid_none w zero h = absurd (omega arith)
laid_none w (suc n) h =
    let e : suc n - (1 + w * 0) ≡ n = omega (arith, mul-zero w) in
    rw e refl

pub stored_laid : (w n : ℕ) (fs gs : List Filter) → Wide w fs → 1 + w * length fs ≤ n → stored w gs (laid w n fs) ≡ laid w n gs
unfolding laid
stored_laid w n fs gs h a =
    let e : n - (1 + w * length fs) ≡ n - 1 - w * length fs = omega arith in
    let f : n - (1 + w * length gs) ≡ n - 1 - w * length gs = omega arith in
    let z = blanked_none (n - 1 - w * length fs) (w * length fs) in
    let y = blanked_none (n - 1 - w * length gs) (w * length gs) in
    let s = stored_is w gs (length fs ∷ (written fs ++ blanked (n - 1 - w * length fs) (drop (w * length fs) []))) in
    let b = blanked_again (written fs) [] (w * length gs) (w * length fs) (n - 1) (length_written w fs h) (omega arith) in
    rw (e, ← z, s, b, y, f) refl

pub length_laid : (w n : ℕ) (fs : List Filter) → Wide w fs → 1 + w * length fs ≤ n → length (laid w n fs) ≡ n
unfolding laid
length_laid w n fs h a =
    let l = length_written w fs h in
    simp (length-append, length-replicate) (omega arith)

pub getD_laid : (w n : ℕ) (fs : List Filter) → get_or (laid w n fs) 0 0 ≡ length fs
unfolding laid
getD_laid w n fs = refl

-- a table that holds nothing else stays one through every change
pub changed_laid : (w n : ℕ) (change : List Filter → List Filter) (fs : List Filter) → Wide w fs → 1 + w * length fs ≤ n → changed w change (laid w n fs) ≡ laid w n (change fs)
changed_laid w n change fs h a = rw (held_laid w n fs h) (stored_laid w n fs (change fs) h a)

pub wide_maximal : (w : ℕ) (fs : List Filter) → Wide w fs → Wide w (maximal fs)
wide_maximal w fs h = wide_part w (maximal fs) fs (λ x m. maximal_member x fs m) h

-- inserted into a table of maximal filters: the table of the maximal filters of all
pub inserted_all_laid : (w n : ℕ) (fs gs : List Filter) → Wide w gs → Wide w fs → 1 + w * (length (maximal gs) + length fs) ≤ n →
    inserted_all w fs (laid w n (maximal gs)) ≡ laid w n (maximal (gs ++ fs))
unfolding inserted_all
inserted_all_laid w n [] gs a b h = ap (λ fs. laid w n (maximal fs)) (sym (append-nil gs))
inserted_all_laid w n (f ∷ fs) gs a b h =
    let v = wide_maximal w gs a in
    let e = held_laid w n (maximal gs) v in
    let p = maximal_push gs f in
    let l = length_insert f (maximal gs) in
    let k : length (maximal (gs ++ f ∷ [])) ≤ suc (length (maximal gs)) = rw p l in
    let fits : length (maximal gs) ≤ length (maximal gs) + length (f ∷ fs) = omega arith in
    let all : length (maximal (gs ++ f ∷ [])) + length fs ≤ length (maximal gs) + length (f ∷ fs) = omega arith in
    let s = stored_laid w n (maximal gs) (maximal (gs ++ f ∷ [])) v (omega (arith, mul-le-mul_left w fits)) in
    let r = inserted_all_laid w n fs (gs ++ f ∷ []) (wide_push w f gs (wide_head w f fs b) a) (wide_tail w f fs b) (omega (arith, mul-le-mul_left w all)) in
    let q = append_assoc gs (f ∷ []) fs in
    rw (e, ← p, s) (r ∙ ap (λ xs. laid w n (maximal xs)) q)

-- inserted into an empty table: the table of the maximal filters
pub inserted_all_none : (w n : ℕ) (fs : List Filter) → Wide w fs → 1 + w * length fs ≤ n → inserted_all w fs (replicate n 0) ≡ laid w n (maximal fs)
unfolding among maximal ordered uncovered
inserted_all_none w n fs b h =
    let e : 0 + length fs ≡ length fs = omega arith in
    rw (← laid_none w n (omega arith)) (inserted_all_laid w n fs [] (λ f m. absurd (grind arith)) b (rw e h))

-- a row that comes next fits where those that were picked leave off
pub next_fits : (r : Rows) (gs done rest : List Filter) (f : Filter) (left : List Filter) (zs ys : List ℕ) (k : ℕ) → Picked gs r.width zs done ys k → done ++ left ≡ listed r → left ≡ f ∷ rest →
    (length f ≡ r.width) × (k < r.left) × (r.width * k + r.width ≤ r.width * r.left)
next_fits r gs done rest f left zs ys k h e g =
    let w = wide_rows r.width r.left r.words.now r.there in
    let y = yet_to_come r.width done rest (listed r) f left w e g in
    let l = length_rows r.width r.left r.words.now in
    let m = length_minus done gs in
    let n : k < r.left = omega (arith, h.counted, y.1) in
    (y.0, n, row_fits r.width r.left k (r.width * r.left) n (omega arith))
