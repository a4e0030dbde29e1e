-- Rows of words: one row more, rows before and after a place, and what was written is there.
use Rattle.std.proofs.Common.{◌≡◌, ℕ, zero, suc, ◌+◌, ◌-◌, ◌*◌, ◌<◌, ◌≤◌, Bool, false, cond, not, ◌&&◌, ◌||◌, ltb, true, Option, Some, None, is_some, unwrap_or, Result, Ok, Err, is_ok, MatchOption, List, [], ◌∷◌, ◌++◌, length, get_or, take, drop, sym, refl, ap, mul-le-mul_left, mul-zero, mul-suc, ◌∙◌, true≢false, arith, take-add}
use native.Mathlib.Nat.{mul-sub}
use Rattle.std.specs.List.{list_any, position_or_len, insert, remove}
use Rattle.std.proofs.lemmas.List.{append_assoc, length-append, drop-drop, drop_at, take_at, drop_more}
use Rattle.filter.specs.Filter.{Filter, Notice, matches, same, covers, before}
use Rattle.std.proofs.lemmas.Bool.Decides.{nat_tests}
use Rattle.filter.proofs.Laws.{same_refl, same_tells, before_irrefl}
use Rattle.cover.specs.Maximal.{among, any_covers, any_matches, put, without}
use Rattle.cover.specs.Table.{rows, written, Wide, first, found}

-- one row more, in words
pub next : (w i : ℕ) → w * (i + 1) ≡ w * i + w
next w i =
    let e : i + 1 ≡ suc i = omega arith in
    rw (e, mul-suc w i) refl

pub length_rows : (w n : ℕ) (xs : List ℕ) → length (rows w n xs) ≡ n
unfolding rows
length_rows w zero xs = refl
length_rows w (suc n) xs = ap suc (length_rows w n (drop w xs))

pub rows_none : (w n : ℕ) (xs : List ℕ) → n ≡ 0 → rows w n xs ≡ []
unfolding rows
rows_none w n xs e = rw e refl

pub rows_head : (w n : ℕ) (xs : List ℕ) → 0 < n → rows w n xs ≡ take w xs ∷ rows w (n - 1) (drop w xs)
unfolding rows
rows_head w zero xs h = absurd (omega arith)
rows_head w (suc n) xs h =
    let e : suc n - 1 ≡ n = omega arith in
    rw e refl

pub rows_more : (w n : ℕ) (xs : List ℕ) (i : ℕ) → i < n → drop i (rows w n xs) ≡ take w (drop (w * i) xs) ∷ drop (i + 1) (rows w n xs)
unfolding rows
rows_more w zero xs i h = absurd (omega arith)
rows_more w (suc n) xs zero h = rw (mul-zero w) refl
rows_more w (suc n) xs (suc i) h =
    let r = rows_more w n (drop w xs) i (omega arith) in
    let d = drop-drop (w * i) w xs in
    let m : w + w * i ≡ w * suc i = omega (arith, mul-suc w i) in
    let e : suc i + 1 ≡ suc (i + 1) = omega arith in
    rw (e, ← m, ← d) r

-- the rows before a place, and from it on
pub take_rows : (w n : ℕ) (xs : List ℕ) (i : ℕ) → i ≤ n → take i (rows w n xs) ≡ rows w i xs
unfolding rows
take_rows w n xs zero h = refl
take_rows w zero xs (suc i) h = absurd (omega arith)
take_rows w (suc n) xs (suc i) h = ap (λ fs. take w xs ∷ fs) (take_rows w n (drop w xs) i (omega arith))

pub drop_rows : (w n : ℕ) (xs : List ℕ) (i : ℕ) → i ≤ n → drop i (rows w n xs) ≡ rows w (n - i) (drop (w * i) xs)
unfolding rows
drop_rows w n xs zero h =
    let e : n - 0 ≡ n = omega arith in
    rw (mul-zero w, e) refl
drop_rows w zero xs (suc i) h = absurd (omega arith)
drop_rows w (suc n) xs (suc i) h =
    let r = drop_rows w n (drop w xs) i (omega arith) in
    let d = drop-drop (w * i) w xs in
    let m : w + w * i ≡ w * suc i = omega (arith, mul-suc w i) in
    let e : suc n - suc i ≡ n - i = omega arith in
    rw (e, ← m, ← d) r

pub written_append : (fs gs : List Filter) → written (fs ++ gs) ≡ written fs ++ written gs
unfolding written
written_append [] gs = refl
written_append (f ∷ fs) gs = rw (written_append fs gs) (sym (append_assoc f (written fs) (written gs)))

pub wide_head : (w : ℕ) (f : Filter) (fs : List Filter) → Wide w (f ∷ fs) → length f ≡ w
unfolding among
wide_head w f fs h =
    let s = same_refl f in
    h f (grind arith)

pub wide_tail : (w : ℕ) (f : Filter) (fs : List Filter) → Wide w (f ∷ fs) → Wide w fs
unfolding among
wide_tail w f fs h = λ x m. h x (grind arith)

pub length_written : (w : ℕ) (fs : List Filter) → Wide w fs → length (written fs) ≡ w * length fs
unfolding written
length_written w [] h = sym (mul-zero w)
length_written w (f ∷ fs) h =
    let r = length_written w fs (wide_tail w f fs h) in
    let a = wide_head w f fs h in
    let l = length-append f (written fs) in
    omega (arith, mul-suc w (length fs))

-- what was written is there
pub rows_written : (w : ℕ) (fs : List Filter) (ys : List ℕ) → Wide w fs → rows w (length fs) (written fs ++ ys) ≡ fs
unfolding written rows
rows_written w [] ys h = refl
rows_written w (f ∷ fs) ys h =
    let a = wide_head w f fs h in
    let s = append_assoc f (written fs) ys in
    let t = take_at f (written fs ++ ys) w a in
    let d = drop_at f (written fs ++ ys) w a in
    let r = rows_written w fs ys (wide_tail w f fs h) in
    rw (s, t, d, r) refl

pub written_rows : (w n : ℕ) (xs : List ℕ) → written (rows w n xs) ≡ take (w * n) xs
unfolding written rows
written_rows w zero xs = rw (mul-zero w) refl
written_rows w (suc n) xs =
    let r = written_rows w n (drop w xs) in
    let t = take-add w (w * n) xs in
    let m : w + w * n ≡ w * suc n = omega (arith, mul-suc w n) in
    rw (r, ← t, m) refl

-- a row below the count lies within the words
pub row_fits : (w n i l : ℕ) → i < n → w * n ≤ l → w * i + w ≤ l
row_fits w n i l h b =
    let m = mul-le-mul_left w h in
    omega (arith, mul-suc w i)

-- one row more
pub rows_push : (w n : ℕ) (xs : List ℕ) → rows w (n + 1) xs ≡ rows w n xs ++ take w (drop (w * n) xs) ∷ []
unfolding rows
rows_push w zero xs = rw (mul-zero w) refl
rows_push w (suc n) xs =
    let r = rows_push w n (drop w xs) in
    let d = drop-drop (w * n) w xs in
    let m : w + w * n ≡ w * suc n = omega (arith, mul-suc w n) in
    let e : suc n + 1 ≡ suc (n + 1) = omega arith in
    rw (e, ← m, ← d) (ap (λ fs. take w xs ∷ fs) r)

-- the rows before a place and from it on, in words
pub written_before : (w n i : ℕ) (xs : List ℕ) → i ≤ n → written (take i (rows w n xs)) ≡ take (w * i) xs
written_before w n i xs h = rw (take_rows w n xs i h) (written_rows w i xs)

pub written_from : (w n i : ℕ) (xs : List ℕ) → i ≤ n → written (drop i (rows w n xs)) ≡ take (w * n - w * i) (drop (w * i) xs)
written_from w n i xs h =
    let m : w * (n - i) ≡ w * n - w * i = mul-sub w n i in
    rw (drop_rows w n xs i h, ← m) (written_rows w (n - i) (drop (w * i) xs))

-- a row that comes in
pub written_inserted : (w n i : ℕ) (xs f : List ℕ) → length f ≡ w → i ≤ n →
    written (insert (rows w n xs) i f) ++ drop (w * n + w) xs ≡ take (w * i) xs ++ (f ++ (take (w * n - w * i) (drop (w * i) xs) ++ drop (w * n + length f) xs))
unfolding written
written_inserted w n i xs f l h =
    let a = written_append (take i (rows w n xs)) (f ∷ drop i (rows w n xs)) in
    let b = written_before w n i xs h in
    let c = written_from w n i xs h in
    rw (a, b, c, l) (simp append_assoc)

-- a row that goes out
pub written_removed : (w n i : ℕ) (xs ys : List ℕ) → i < n →
    written (remove (rows w n xs) i) ++ ys ≡ take (w * i) xs ++ (take (w * n - (w * i + w)) (drop (w * i + w) xs) ++ ys)
written_removed w n i xs ys h =
    let a = written_append (take i (rows w n xs)) (drop (suc i) (rows w n xs)) in
    let b = written_before w n i xs (omega arith) in
    let c = written_from w n (suc i) xs h in
    let m : w * suc i ≡ w * i + w = omega (arith, mul-suc w i) in
    rw (a, b, c, m) (append_assoc (take (w * i) xs) (take (w * n - (w * i + w)) (drop (w * i + w) xs)) ys)

pub get_d_rows : (w n i : ℕ) (xs : List ℕ) → i < n → get_or (rows w n xs) i [] ≡ take w (drop (w * i) xs)
get_d_rows w n i xs h =
    let m = rows_more w n xs i h in
    let d = drop_more (rows w n xs) i [] (omega (arith, length_rows w n xs)) in
    cc

-- the first that is the same as f stands within the list just if f is a member
pub first_among : (f : Filter) (gs : List Filter) → ltb (first (λ g. same f g) gs) (length gs) ≡ among f gs
unfolding first among
first_among f [] = refl
first_among f (g ∷ gs) =
    let r = first_among f gs in
    grind (arith, nat_tests)

pub first_within : (p : Filter → Bool) (gs : List Filter) → first p gs ≤ length gs
unfolding first
first_within p [] = omega arith
first_within p (g ∷ gs) =
    let r = first_within p gs in
    grind arith

-- put, by the place of the first that does not come before f
pub put_at : (f : Filter) (gs : List Filter) →
    put f gs ≡ cond (ltb (first (λ g. not (before g f)) gs) (length gs) && same f (get_or gs (first (λ g. not (before g f)) gs) [])) gs (insert gs (first (λ g. not (before g f)) gs) f)
unfolding first put
put_at f [] = refl
put_at f (g ∷ gs) =
    let r = put_at f gs in
    let i = before_irrefl f in
    grind (arith, nat_tests, same_tells)

-- taken out, by the place of the first that is the same
pub without_at : (f : Filter) (gs : List Filter) → without f gs ≡ remove gs (first (λ g. same f g) gs)
unfolding first without
without_at f [] = refl
without_at f (g ∷ gs) =
    let r = without_at f gs in
    grind (arith, nat_tests, same_tells)

-- the tests of all filters of a list, in the library's words
pub among_any : (f : Filter) (gs : List Filter) → among f gs ≡ list_any (λ g. same f g) gs
unfolding among
among_any f [] = refl
among_any f (g ∷ gs) = ap (λ b. same f g || b) (among_any f gs)

pub covers_any : (gs : List Filter) (f : Filter) → any_covers gs f ≡ list_any (λ g. covers g f) gs
unfolding any_covers
covers_any [] f = refl
covers_any (g ∷ gs) f = ap (λ b. covers g f || b) (covers_any gs f)

pub matches_any : (gs : List Filter) (e : Notice) → any_matches gs e ≡ list_any (λ g. matches g e) gs
unfolding any_matches
matches_any [] e = refl
matches_any (g ∷ gs) e = ap (λ b. matches g e || b) (matches_any gs e)

-- the first filter that passes, in the library's words
pub first_is : (p : Filter → Bool) (gs : List Filter) → position_or_len p gs ≡ first p gs
unfolding first
first_is p [] = refl
first_is p (g ∷ gs) =
    let r = first_is p gs in
    grind arith

pub first_of : (f : Filter) (gs : List Filter) →
    cond (ltb (position_or_len (λ g. same f g) gs) (length gs)) (Some (position_or_len (λ g. same f g) gs)) None ≡ cond (among f gs) (Some (first (λ g. same f g) gs)) None
first_of f gs = rw (first_is (λ g. same f g) gs, first_among f gs) refl

-- the place of the first that passes, as the library's `position` finds it
pub first_at : (p : Filter → Bool) (gs : List Filter) (n : ℕ) (r : Option ℕ) → length gs ≡ n → r ≡ cond (ltb (position_or_len p gs) (length gs)) (Some (position_or_len p gs)) None →
    MatchOption r (first p gs ≡ n) (λ i. (first p gs ≡ i) × (i < n))
first_at p gs n r l e = rw (e, first_is p gs) (go (ltb (first p gs) (length gs)) refl)
  where
    go : (b : Bool) → ltb (first p gs) (length gs) ≡ b → MatchOption (cond b (Some (first p gs)) None) (first p gs ≡ n) (λ i. (first p gs ≡ i) × (i < n))
    go true h = (refl, grind (arith, nat_tests))
    go false h =
        let w = first_within p gs in
        grind (arith, nat_tests)

pub found_past : (f : Filter) (gs : List Filter) (n : ℕ) → length gs ≡ n → first (λ g. not (before g f)) gs ≡ n → found f gs ≡ Err n
unfolding found
found_past f gs n l e =
    let t : ltb n (length gs) ≡ false = grind (arith, nat_tests) in
    rw (e, t) refl

pub found_at : (f : Filter) (gs : List Filter) (at n : ℕ) (b : Bool) → length gs ≡ n → (first (λ g. not (before g f)) gs ≡ at) × (at < n) → b ≡ same f (get_or gs at []) → found f gs ≡ cond b (Ok at) (Err at)
unfolding found
found_at f gs at n b l e s =
    let t : ltb at (length gs) ≡ true = grind (arith, nat_tests) in
    rw (e.0, t, ← s) refl

-- what was found, read back
pub found_ok : (f : Filter) (gs : List Filter) (at : ℕ) → Ok at ≡ found f gs → put f gs ≡ gs
unfolding found
found_ok f gs at e = put_at f gs ∙ go (ltb (first (λ g. not (before g f)) gs) (length gs) && same f (get_or gs (first (λ g. not (before g f)) gs) [])) e
  where
    go : (b : Bool) → Ok at ≡ cond b (Ok (first (λ g. not (before g f)) gs)) (Err (first (λ g. not (before g f)) gs)) → cond b gs (insert gs (first (λ g. not (before g f)) gs) f) ≡ gs
    go true h = refl
    go false h = absurd (true≢false (ap is_ok h))

pub found_err : (f : Filter) (gs : List Filter) (at : ℕ) → Err at ≡ found f gs → (put f gs ≡ insert gs at f) × (at ≤ length gs)
unfolding found
found_err f gs at e = go (ltb (first (λ g. not (before g f)) gs) (length gs) && same f (get_or gs (first (λ g. not (before g f)) gs) [])) refl e
  where
    error_of : Result ℕ ℕ → ℕ
    error_of (Ok n) = 0
    error_of (Err n) = n

    go : (b : Bool) → (ltb (first (λ g. not (before g f)) gs) (length gs) && same f (get_or gs (first (λ g. not (before g f)) gs) [])) ≡ b →
        Err at ≡ cond b (Ok (first (λ g. not (before g f)) gs)) (Err (first (λ g. not (before g f)) gs)) → (put f gs ≡ insert gs at f) × (at ≤ length gs)
    go true b h = absurd (true≢false (sym (ap is_ok h)))
    go false b h =
        let p = put_at f gs in
        let a : at ≡ first (λ g. not (before g f)) gs = ap error_of h in
        let w = first_within (λ g. not (before g f)) gs in
        (rw (p, b, a) refl, omega arith)

-- the place of f among the filters of a list, read back
pub place_found : (f : Filter) (gs : List Filter) (at : ℕ) → Some at ≡ cond (among f gs) (Some (first (λ g. same f g) gs)) None → (at ≡ first (λ g. same f g) gs) × (at < length gs)
place_found f gs at e = go (among f gs) refl e
  where
    go : (b : Bool) → among f gs ≡ b → Some at ≡ cond b (Some (first (λ g. same f g) gs)) None → (at ≡ first (λ g. same f g) gs) × (at < length gs)
    go true m h =
        let a : at ≡ first (λ g. same f g) gs = ap (λ o. unwrap_or o 0) h in
        let r = first_among f gs in
        (a, grind (arith, nat_tests))
    go false m h = absurd (true≢false (ap is_some h))

pub place_lacking : (f : Filter) (gs : List Filter) → None ≡ cond (among f gs) (Some (first (λ g. same f g) gs)) None → among f gs ≡ false
place_lacking f gs e = go (among f gs) refl e
  where
    go : (b : Bool) → among f gs ≡ b → None ≡ cond b (Some (first (λ g. same f g) gs)) None → b ≡ false
    go true m h = absurd (true≢false (sym (ap is_some h)))
    go false m h = refl
