-- The subscribers of a part, one slot after the other.
use Rattle.std.proofs.Common.{◌≡◌, ℕ, suc, ◌+◌, ◌*◌, ◌<◌, ◌≤◌, Bool, true, false, cond, ◌||◌, eqb, ltb, List, [], ◌∷◌, ◌++◌, map, length, get_or, take, drop, Some, None, sym, refl, ap, ◌∙◌, mul-le-mul_left, mul-suc, arith}
use Rattle.std.specs.List.{position_or_len, remove, AllByRecursion}
use Rattle.std.proofs.lemmas.List.{drop-map, drop_more, length-map, map-append, take-append-drop}
use Rattle.std.proofs.lemmas.Bool.Decides.{nat_tests}
use Rattle.filter.specs.Filter.{Notice, matches}
use Rattle.cover.specs.Maximal.{insert}
use Rattle.cover.specs.Table.{Wide, held, stored, inserted_all}
use Rattle.cover.proofs.RowLaws.{wide_head, wide_tail}
use Rattle.cover.proofs.TableLaws.{length_held, wide_held}
use Rattle.cover.proofs.Keeping.{yet_to_come}
use Rattle.broker.specs.Subscribers.{Subscriber, subscriber, has_number, Whole, subscribers, filters_of, known, filter_of, ahead, dropped, reached}

-- a slot in use lies within the words
pub slot_fits : (w n i l : ℕ) → i < n → 1 + w * n ≤ l → 1 + w * i + w ≤ l
slot_fits w n i l h b =
    let m = mul-le-mul_left w h in
    omega (arith, mul-suc w i)

-- whether a slot begins with a number, by its first word
pub begins : (n : ℕ) (s : List ℕ) → 0 < length s → has_number n s ≡ eqb (get_or s 0 0) n
unfolding has_number
begins n [] h = absurd (omega arith)
begins n (x ∷ xs) h = refl

pub begins_none : (n : ℕ) (s : List ℕ) → length s ≡ 0 → has_number n s ≡ false
unfolding has_number
begins_none n [] h = refl
begins_none n (x ∷ xs) h = absurd (omega arith)

pub length_subscribers : (m : ℕ) (ws : List ℕ) → length (subscribers m ws) ≡ get_or ws 0 0
unfolding subscribers
length_subscribers m ws = length-map (held (1 + 2 * m) ws) subscriber ∙ length_held (1 + 2 * m) ws

-- slots that have a first word: the first with a number, and how many stand before it
pub ahead_is : (n w : ℕ) (ss : List (List ℕ)) → 0 < w → Wide w ss → position_or_len (has_number n) ss ≡ ahead n (map subscriber ss)
unfolding ahead has_number
ahead_is n w [] h d = refl
ahead_is n w (s ∷ ss) h d = go s (omega (arith, wide_head w s ss d)) (ahead_is n w ss h (wide_tail w s ss d))
  where
    go : (s : List ℕ) → 0 < length s → position_or_len (has_number n) ss ≡ ahead n (map subscriber ss) → position_or_len (has_number n) (s ∷ ss) ≡ ahead n (map subscriber (s ∷ ss))
    go [] l e = absurd (omega arith)
    go (x ∷ xs) l e = grind arith

-- a number is known just if fewer stand ahead of it than there are
pub ahead_known : (n : ℕ) (rs : List Subscriber) → ltb (ahead n rs) (length rs) ≡ known n rs
unfolding ahead known
ahead_known n [] = refl
ahead_known n (r ∷ rs) =
    let p = ahead_known n rs in
    grind (arith, nat_tests)

-- the place of a number, as the library's `position` finds it among the slots
pub number_at : (n m : ℕ) (ws : List ℕ) → Whole m ws →
    cond (ltb (position_or_len (has_number n) (held (1 + 2 * m) ws)) (length (held (1 + 2 * m) ws))) (Some (position_or_len (has_number n) (held (1 + 2 * m) ws))) None
    ≡ cond (known n (subscribers m ws)) (Some (ahead n (subscribers m ws))) None
unfolding subscribers
number_at n m ws h =
    let a = ahead_is n (1 + 2 * m) (held (1 + 2 * m) ws) (omega arith) (wide_held (1 + 2 * m) ws h) in
    let l = length-map (held (1 + 2 * m) ws) subscriber in
    let k = ahead_known n (subscribers m ws) in
    rw (a, ← l, k) refl

-- the list without the subscriber with the number, by its place
pub dropped_at : (n : ℕ) (rs : List Subscriber) → dropped n rs ≡ remove rs (ahead n rs)
unfolding ahead dropped
dropped_at n [] = refl
dropped_at n (r ∷ rs) =
    let p = dropped_at n rs in
    grind (arith, nat_tests)

pub dropped_none : (n : ℕ) (rs : List Subscriber) → known n rs ≡ false → dropped n rs ≡ rs
unfolding dropped known
dropped_none n [] h = refl
dropped_none n (r ∷ rs) h =
    let p = dropped_none n rs in
    grind (arith, nat_tests)

pub length_dropped : (n : ℕ) (rs : List Subscriber) → length (dropped n rs) ≤ length rs
unfolding dropped
length_dropped n [] = omega arith
length_dropped n (r ∷ rs) =
    let p = length_dropped n rs in
    grind arith

pub all_dropped : (P : Subscriber → Type 0) (n : ℕ) (rs : List Subscriber) → AllByRecursion P rs → AllByRecursion P (dropped n rs)
unfolding dropped
all_dropped P n [] h = tt
all_dropped P n (r ∷ rs) h = go (eqb r.number n) (all_dropped P n rs h.1)
  where
    go : (t : Bool) → AllByRecursion P (dropped n rs) → AllByRecursion P (cond t rs (r ∷ dropped n rs))
    go true p = h.1
    go false p = (h.0, p)

-- one number more of those that are reached
pub reached_push : (e : Notice) (rs : List Subscriber) (r : Subscriber) → reached e (rs ++ r ∷ []) ≡ cond (matches r.filter e) (reached e rs ++ r.number ∷ []) (reached e rs)
unfolding reached
reached_push e [] r = refl
reached_push e (x ∷ rs) r =
    let p = reached_push e rs r in
    grind arith

-- a slot that is still to come is as wide as the others, and fewer than all were gone through
pub slot_to_come : (m : ℕ) (ws : List ℕ) (done : List (List ℕ)) (s : List ℕ) (rest left : List (List ℕ)) → Whole m ws → done ++ left ≡ held (1 + 2 * m) ws → left ≡ s ∷ rest →
    (length s ≡ 1 + 2 * m) × (length done < get_or ws 0 0)
slot_to_come m ws done s rest left h e g =
    let y = yet_to_come (1 + 2 * m) done rest (held (1 + 2 * m) ws) s left (wide_held (1 + 2 * m) ws h) e g in
    (y.0, omega (arith, y.1, length_held (1 + 2 * m) ws))

-- of those that were gone through those that are reached, with one subscriber more
pub reached_next : (e : Notice) (done : List (List ℕ)) (s : List ℕ) →
    reached e (map subscriber (done ++ s ∷ [])) ≡ cond (matches (drop 1 s) e) (reached e (map subscriber done) ++ get_or s 0 0 ∷ []) (reached e (map subscriber done))
reached_next e done s = ap (reached e) (map-append subscriber done (s ∷ [])) ∙ reached_push e (map subscriber done) (subscriber s)

-- a pass that inserts the filters, one subscriber on, and at the end
pub gathered_next : (w : ℕ) (s : List ℕ) (rest left : List (List ℕ)) (t : List ℕ) → left ≡ s ∷ rest →
    inserted_all w (filters_of (map subscriber rest)) (stored w (insert (drop 1 s) (held w t)) t) ≡ inserted_all w (filters_of (map subscriber left)) t
unfolding inserted_all filters_of
gathered_next w s rest left t e = rw e refl

pub gathered_none : (w : ℕ) (left : List (List ℕ)) (t : List ℕ) → left ≡ [] → t ≡ inserted_all w (filters_of (map subscriber left)) t
unfolding inserted_all filters_of
gathered_none w left t e = rw e refl

-- what a place that was found, or none, tells
found_at : (n at : ℕ) (rs : List Subscriber) → Some at ≡ cond (known n rs) (Some (ahead n rs)) None → (known n rs ≡ true) × (at ≡ ahead n rs) × (at < length rs)
found_at n at rs e =
    let k = ahead_known n rs in
    grind (arith, nat_tests)

pub found : (n m at : ℕ) (ws : List ℕ) → Some at ≡ cond (known n (subscribers m ws)) (Some (ahead n (subscribers m ws))) None →
    (known n (subscribers m ws) ≡ true) × (at ≡ ahead n (subscribers m ws)) × (at < get_or ws 0 0)
found n m at ws e =
    let f = found_at n at (subscribers m ws) e in
    let l = length_subscribers m ws in
    (f.0, f.1, omega arith)

pub not_found : (b : Bool) (k : ℕ) → None ≡ cond b (Some k) None → b ≡ false
not_found true k e = let z : ◌≡◌ {A = ℕ} 0 1 = cc in absurd (omega arith)
not_found false k e = refl

-- the filter with a number is that of the first who has it
filter_ahead : (n : ℕ) (rs ss : List Subscriber) (r : Subscriber) → known n rs ≡ true → drop (ahead n rs) rs ≡ r ∷ ss → filter_of n rs ≡ r.filter
unfolding filter_of known ahead
filter_ahead n [] ss r k e =
    let z : ◌≡◌ {A = ℕ} 0 1 = cc in
    absurd (omega arith)
filter_ahead n (x ∷ rs) ss r k e = go (eqb x.number n) k e (filter_ahead n rs ss r)
  where
    go : (v : Bool) → (v || known n rs) ≡ true → drop (cond v 0 (suc (ahead n rs))) (x ∷ rs) ≡ r ∷ ss → (known n rs ≡ true → drop (ahead n rs) rs ≡ r ∷ ss → filter_of n rs ≡ r.filter) → cond v x.filter (filter_of n rs) ≡ r.filter
    go true k e i =
        let q : x ≡ r = cc in
        ap (λ y. y.filter) q
    go false k e i = i k e

pub filter_there : (n m at : ℕ) (ws s : List ℕ) → Whole m ws → known n (subscribers m ws) ≡ true → at ≡ ahead n (subscribers m ws) → at < get_or ws 0 0 → s ≡ get_or (held (1 + 2 * m) ws) at [] →
    (length s ≡ 1 + 2 * m) × (filter_of n (subscribers m ws) ≡ drop 1 s)
unfolding subscribers
filter_there n m at ws s h k e l i =
    let b : at < length (held (1 + 2 * m) ws) = omega (arith, length_held (1 + 2 * m) ws) in
    let d = drop_more (held (1 + 2 * m) ws) at [] b in
    let t = slot_to_come m ws (take at (held (1 + 2 * m) ws)) s (drop (at + 1) (held (1 + 2 * m) ws)) (drop at (held (1 + 2 * m) ws)) h (take-append-drop at (held (1 + 2 * m) ws)) (rw (← i) at d) in
    let a = drop-map subscriber at (held (1 + 2 * m) ws) ∙ ap (map subscriber) (rw (← i) at d) in
    (t.0, filter_ahead n (subscribers m ws) (map subscriber (drop (at + 1) (held (1 + 2 * m) ws))) (subscriber s) k (ap (λ i. drop i (subscribers m ws)) (sym e) ∙ a))
