-- The words of a broker's subscribers: one more, one less, and what the part then holds.
use Rattle.std.proofs.Common.{◌≡◌, ℕ, suc, ◌+◌, ◌-◌, ◌*◌, ◌<◌, ◌≤◌, false, List, [], ◌∷◌, ◌++◌, map, length, get_or, take, drop, set, replicate, sym, refl, ap, ◌∙◌, mul-le-mul_left, arith}
use borrow.Rule.Slice.PartMut.{put_mid}
use Rattle.std.specs.List.{remove, AllByRecursion}
use Rattle.std.proofs.lemmas.List.{append_assoc, map-append, take-map, drop-map, drop-drop, drop-set-lt, take_more_set, length-map, length_push, length-append, length-replicate}
use Rattle.std.proofs.ByRecursion.{All-push}
use Rattle.filter.specs.Filter.{Filter}
use Rattle.cover.specs.Maximal.{among}
use Rattle.cover.specs.Table.{rows, written, Wide, held, stored, laid}
use Rattle.cover.proofs.RowLaws.{wide_head, wide_tail, length_written}
use Rattle.cover.proofs.TableLaws.{wide_held, relaid, stored_same, stored_pushed, stored_removed, wide_cons, held_laid, stored_laid, laid_none}
use Rattle.broker.specs.Subscribers.{Subscriber, row_of, subscriber, subscribers, with_subscribers, encode, Holds, Whole, Shape, known, ahead, dropped}
use Rattle.broker.proofs.Slots.{dropped_at, dropped_none, length_dropped, all_dropped}

-- a number and the words behind it, written one after the other
pub over_slot : (xs ys : List ℕ) (a k n : ℕ) → a < length xs → put_mid (a + 1) k (set xs a n) ys ≡ put_mid a (1 + k) xs (n ∷ ys)
over_slot xs ys a k n h =
    let t = take_more_set xs a n h in
    let l : a < a + 1 = omega arith in
    let d = drop-set-lt (a + 1) xs a n l in
    let p = drop-drop k (a + 1) xs in
    let q = drop-drop (1 + k) a xs in
    let e : a + 1 + k ≡ a + (1 + k) = omega arith in
    let u = append_assoc (take a xs) (n ∷ []) (ys ++ drop (a + (1 + k)) xs) in
    rw (t, d, p, e, q) u

-- rows read as subscribers and written again are as they were, and the other way round
rows_back : (w : ℕ) (gs : List Filter) → 0 < w → Wide w gs → map row_of (map subscriber gs) ≡ gs
rows_back w [] p h = refl
rows_back w ([] ∷ gs) p h = absurd (omega (arith, wide_head w [] gs h))
rows_back w ((x ∷ g) ∷ gs) p h = ap (λ ys. (x ∷ g) ∷ ys) (rows_back w gs p (wide_tail w (x ∷ g) gs h))

subscribers_back : (rs : List Subscriber) → map subscriber (map row_of rs) ≡ rs
subscribers_back [] = refl
subscribers_back (r ∷ rs) = ap (λ ys. r ∷ ys) (subscribers_back rs)

pub held_back : (m : ℕ) (ws : List ℕ) → Whole m ws → map row_of (subscribers m ws) ≡ held (1 + 2 * m) ws
unfolding subscribers
held_back m ws h = rows_back (1 + 2 * m) (held (1 + 2 * m) ws) (omega arith) (wide_held (1 + 2 * m) ws h)

pub joined : (m : ℕ) (ws : List ℕ) (r : Subscriber) → Whole m ws →
    set (put_mid (1 + (1 + 2 * m) * get_or ws 0 0) (1 + 2 * m) ws (row_of r)) 0 (get_or ws 0 0 + 1) ≡ with_subscribers m (subscribers m ws ++ r ∷ []) ws
unfolding with_subscribers
joined m ws r h =
    let a = map-append row_of (subscribers m ws) (r ∷ []) in
    let b = held_back m ws h in
    rw (a, b) (stored_pushed (1 + 2 * m) ws (row_of r) (omega arith))

map_removed : (rs : List Subscriber) (i : ℕ) → map row_of (remove rs i) ≡ remove (map row_of rs) i
map_removed rs i =
    let a = map-append row_of (take i rs) (drop (suc i) rs) in
    let t = take-map row_of i rs in
    let d = drop-map row_of (suc i) rs in
    rw (a, t, d) refl

-- the slot of the subscriber with the number taken out
pub left : (m n at : ℕ) (ws ys : List ℕ) → Whole m ws → at ≡ ahead n (subscribers m ws) → at < get_or ws 0 0 →
    ys ≡ written (remove (rows (1 + 2 * m) (get_or ws 0 0) (drop 1 ws)) at) ++ (replicate (1 + 2 * m) 0 ++ drop ((1 + 2 * m) * get_or ws 0 0) (drop 1 ws)) →
    set (put_mid 1 (length ws - 1) ws ys) 0 (get_or ws 0 0 - 1) ≡ with_subscribers m (dropped n (subscribers m ws)) ws
unfolding with_subscribers held
left m n at ws ys h e l y =
    let s = stored_removed (1 + 2 * m) ws ys at (omega arith) l y in
    let r = relaid ws ys (omega arith) in
    let g : get_or (put_mid 1 (length ws - 1) ws ys) 0 0 ≡ get_or ws 0 0 = ap (λ v. get_or v 0 0) r in
    let d = dropped_at n (subscribers m ws) in
    let p = map_removed (subscribers m ws) at in
    let b = held_back m ws h in
    let q : map row_of (dropped n (subscribers m ws)) ≡ remove (held (1 + 2 * m) ws) at = rw (d, ← e, p, b) refl in
    rw (q) (rw g at s)

pub left_none : (m n : ℕ) (ws : List ℕ) → Whole m ws → known n (subscribers m ws) ≡ false → ws ≡ with_subscribers m (dropped n (subscribers m ws)) ws
unfolding with_subscribers
left_none m n ws h k =
    let d = dropped_none n (subscribers m ws) k in
    let b = held_back m ws h in
    rw (d, b) (sym (stored_same (1 + 2 * m) ws (omega arith)))

wide_rows_of : (m : ℕ) (rs : List Subscriber) → AllByRecursion (λ s. length s.filter ≡ 2 * m) rs → Wide (1 + 2 * m) (map row_of rs)
unfolding among
wide_rows_of m [] h = λ x a. absurd (grind arith)
wide_rows_of m (r ∷ rs) h =
    let l : length r.filter ≡ 2 * m = h.0 in
    wide_cons (1 + 2 * m) (row_of r) (map row_of rs) (omega arith) (wide_rows_of m rs h.1)

pub subscribers_held : (room m : ℕ) (rs : List Subscriber) (ws : List ℕ) → Holds room m rs ws → subscribers m ws ≡ rs
unfolding subscribers encode
subscribers_held room m rs ws h =
    let l = held_laid (1 + 2 * m) (1 + (1 + 2 * m) * room) (map row_of rs) (wide_rows_of m rs h.wide) in
    rw (h.words, l) (subscribers_back rs)

pub count_held : (room m : ℕ) (rs : List Subscriber) (ws : List ℕ) → Holds room m rs ws → get_or ws 0 0 ≡ length rs
unfolding encode laid
count_held room m rs ws h = ap (λ v. get_or v 0 0) h.words ∙ length-map rs row_of

-- other subscribers in place of those that a part holds
pub with_held : (room m : ℕ) (rs ss : List Subscriber) (ws : List ℕ) → Holds room m rs ws → AllByRecursion (λ s. length s.filter ≡ 2 * m) ss → length ss ≤ room →
    (new : List ℕ) → new ≡ with_subscribers m ss ws → Holds room m ss new
unfolding with_subscribers encode
with_held room m rs ss ws h wide fits new e =
    let a = length-map rs row_of in
    let p = mul-le-mul_left (1 + 2 * m) h.fits in
    let s = stored_laid (1 + 2 * m) (1 + (1 + 2 * m) * room) (map row_of rs) (map row_of ss) (wide_rows_of m rs h.wide) (rw a (omega arith)) in
    record { words = e ∙ ap (stored (1 + 2 * m) (map row_of ss)) h.words ∙ s; wide = wide; fits = fits }

pub joined_holds : (room m : ℕ) (rs : List Subscriber) (ws : List ℕ) (r : Subscriber) → Holds room m rs ws → length rs < room → length r.filter ≡ 2 * m →
    (new : List ℕ) → new ≡ with_subscribers m (subscribers m ws ++ r ∷ []) ws → Holds room m (rs ++ r ∷ []) new
joined_holds room m rs ws r h l w new e =
    let s = subscribers_held room m rs ws h in
    let n = length_push rs r in
    with_held room m rs (rs ++ r ∷ []) ws h (All-push (λ x. length x.filter ≡ 2 * m) rs r h.wide w) (omega arith) new (rw s at e)

pub left_holds : (room m n : ℕ) (rs : List Subscriber) (ws : List ℕ) → Holds room m rs ws →
    (new : List ℕ) → new ≡ with_subscribers m (dropped n (subscribers m ws)) ws → Holds room m (dropped n rs) new
left_holds room m n rs ws h new e =
    let s = subscribers_held room m rs ws h in
    let d = length_dropped n rs in
    let f = h.fits in
    with_held room m rs (dropped n rs) ws h (all_dropped (λ x. length x.filter ≡ 2 * m) n rs h.wide) (omega arith) new (rw s at e)

-- what is in use lies within a part of this shape
pub shape_whole : (room m : ℕ) (ws : List ℕ) → Shape room m ws → Whole m ws
shape_whole room m ws h =
    let p = mul-le-mul_left (1 + 2 * m) h.1 in
    omega arith

pub shape_held : (room m : ℕ) (rs : List Subscriber) (ws : List ℕ) → Holds room m rs ws → Shape room m ws
unfolding encode laid
shape_held room m rs ws h =
    let c = count_held room m rs ws h in
    let f = h.fits in
    let a = length-map rs row_of in
    let p = mul-le-mul_left (1 + 2 * m) h.fits in
    let l = length_written (1 + 2 * m) (map row_of rs) (wide_rows_of m rs h.wide) in
    let b = length-append (written (map row_of rs)) (replicate (1 + (1 + 2 * m) * room - (1 + (1 + 2 * m) * length (map row_of rs))) 0) in
    let d = length-replicate {A = ℕ} (1 + (1 + 2 * m) * room - (1 + (1 + 2 * m) * length (map row_of rs))) 0 in
    let e = ap length h.words in
    (omega (arith, ap (λ k. (1 + 2 * m) * k) a), omega arith)

-- a cleared part holds nobody
pub cleared_holds : (room m : ℕ) → Holds room m [] (replicate (1 + (1 + 2 * m) * room) 0)
unfolding encode
cleared_holds room m =
    record { words = sym (laid_none (1 + 2 * m) (1 + (1 + 2 * m) * room) (omega arith)); wide = tt; fits = omega arith }
