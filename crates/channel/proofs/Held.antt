-- What a channel's words hold: a row appended behind the last, the oldest taken, a row read at its place.
use Rattle.std.proofs.Common.{◌≡◌, ℕ, zero, suc, ◌+◌, ◌-◌, ◌*◌, ◌<◌, ◌≤◌, List, [], ◌∷◌, ◌++◌, length, get_or, take, drop, set, replicate, sym, refl, ap, ◌∙◌, arith}
use borrow.Rule.Slice.PartMut.{put_mid}
use Rattle.std.proofs.lemmas.List.{append_assoc, length-append, length-replicate, length_push, set_at, replicate_more, get_or_append_left, same_lists, get_or_default, get_or-set_same, get_or-set_other, length-set}
use Rattle.std.proofs.ByRecursion.{All-append, All-take, All-drop, All-push}
use Rattle.std.proofs.lemmas.Bool.{lt-ltb, ne_eqb}
use Rattle.std.proofs.lemmas.Bool.Decides.{nat_tests}
use Rattle.cover.specs.Table.{written}
use Rattle.channel.specs.Ring.{Row, Wide, turned, filled, slots, encode, Holds, Shape, turn, row, appended, next, taken}
use Rattle.channel.proofs.Rows.{length_written, written_zeros, written_get, written_set}
use Rattle.channel.proofs.Turned.{length_turned, turn_within, turned_get, turned_set, turned_next, turned_same}

wide_zeros : (w n : ℕ) → Wide w (replicate n (replicate w 0))
wide_zeros w zero = tt
wide_zeros w (suc n) = (length-replicate {A = ℕ} w 0, wide_zeros w n)

wide_filled : (room w : ℕ) (xs : List Row) → Wide w xs → Wide w (filled room w xs)
wide_filled room w xs h = All-append (λ x. length x ≡ w) xs (replicate (room - length xs) (replicate w 0)) h (wide_zeros w (room - length xs))

wide_slots : (room w b : ℕ) (xs : List Row) → Wide w xs → Wide w (slots room w b xs)
wide_slots room w b xs h =
    let f = wide_filled room w xs h in
    All-append (λ x. length x ≡ w) (drop (room - b) (filled room w xs)) (take (room - b) (filled room w xs)) (All-drop (λ x. length x ≡ w) (room - b) (filled room w xs) f) (All-take (λ x. length x ≡ w) (room - b) (filled room w xs) f)

length_filled : (room w : ℕ) (xs : List Row) → length xs ≤ room → length (filled room w xs) ≡ room
length_filled room w xs h =
    let a = length-append xs (replicate (room - length xs) (replicate w 0)) in
    let b = length-replicate (room - length xs) (replicate {A = ℕ} w 0) in
    omega arith

length_slots : (room w b : ℕ) (xs : List Row) → length xs ≤ room → length (slots room w b xs) ≡ room
length_slots room w b xs h =
    let a = length_turned (room - b) (filled room w xs) in
    let f = length_filled room w xs h in
    omega arith

-- one row more takes the first free slot
filled_push : (room w : ℕ) (xs : List Row) (x : Row) → length xs < room → set (filled room w xs) (length xs) x ≡ filled room w (xs ++ x ∷ [])
filled_push room w xs x h =
    let k : room - length xs ≡ suc (room - length (xs ++ x ∷ [])) = omega (arith, length_push xs x) in
    let s = set_at xs (replicate w 0) (replicate (room - length (xs ++ x ∷ [])) (replicate w 0)) x (length xs) refl in
    let a = append_assoc xs (x ∷ []) (replicate (room - length (xs ++ x ∷ [])) (replicate w 0)) in
    rw (k, a) s

-- a slot written over, past the two words in front
put_slot : (b n a w : ℕ) (ys x : List ℕ) → put_mid (2 + a) w (b ∷ (n ∷ ys)) x ≡ b ∷ (n ∷ put_mid a w ys x)
put_slot b n a w ys x =
    let e : 2 + a ≡ suc (suc a) = omega arith in
    rw e refl

get_slot : (b n a w : ℕ) (ys : List ℕ) → take w (drop (2 + a) (b ∷ (n ∷ ys))) ≡ take w (drop a ys)
get_slot b n a w ys =
    let e : 2 + a ≡ suc (suc a) = omega arith in
    rw e refl

-- a row written over the slot that is i on from where the ring begins
slots_set : (room w b i : ℕ) (xs : List Row) (x : Row) → Wide w xs → length xs ≤ room → b < room → i < room →
    put_mid (w * turn room b i) w (written (slots room w b xs)) x ≡ written (turned (room - b) (set (filled room w xs) i x))
slots_set room w b i xs x h l p q =
    let n = length_slots room w b xs l in
    let t = turn_within room b i p q in
    let s = written_set w (slots room w b xs) (turn room b i) x (wide_slots room w b xs h) (omega arith) in
    let u = turned_set room b i (filled room w xs) x (length_filled room w xs l) p q in
    s ∙ ap written u

pub appended_encode : (room w b : ℕ) (xs : List Row) (x : Row) → Wide w xs → length xs < room → b < room →
    appended room w x (encode room w b xs) ≡ encode room w b (xs ++ x ∷ [])
unfolding appended encode
appended_encode room w b xs x h l p =
    let c = lt-ltb (length xs) room l in
    let a = put_slot b (length xs) (w * turn room b (length xs)) w (written (slots room w b xs)) x in
    let s = slots_set room w b (length xs) xs x h (omega arith) p l in
    let f = filled_push room w xs x l in
    let n = length_push xs x in
    rw (c, a, s, f, n) refl

-- a ring that is empty has nothing but zeros, wherever it begins
next_slots : (room w b : ℕ) (xs : List Row) → slots room w (next room b (suc (length xs))) xs ≡ slots room w (turn room b 1) xs
next_slots room w b [] = turned_same (room - 0) (room - 0) (replicate w 0) ∙ sym (turned_same (room - turn room b 1) (room - 0) (replicate w 0))
next_slots room w b (x ∷ xs) =
    let e = ne_eqb (suc (suc (length xs))) 1 (λ q. omega arith) in
    rw e refl

-- the slot of the oldest row, freed, is the last free one
filled_pop : (room w : ℕ) (xs : List Row) → suc (length xs) ≤ room →
    (xs ++ replicate (room - suc (length xs)) (replicate w 0)) ++ replicate w 0 ∷ [] ≡ filled room w xs
filled_pop room w xs l =
    let a = append_assoc xs (replicate (room - suc (length xs)) (replicate w 0)) (replicate w 0 ∷ []) in
    let m = replicate_more (room - suc (length xs)) (replicate {A = ℕ} w 0) in
    let k : room - suc (length xs) + 1 ≡ room - length xs = omega arith in
    rw (a, m, k) refl

pub taken_encode : (room w b : ℕ) (xs : List Row) (x : Row) → Wide w (x ∷ xs) → suc (length xs) ≤ room → b < room →
    taken room w (encode room w b (x ∷ xs)) ≡ encode room w (next room b (suc (length xs))) xs
unfolding taken encode
taken_encode room w b xs x h l p =
    let c = ne_eqb (suc (length xs)) 0 (λ q. omega arith) in
    let a = put_slot b (suc (length xs)) (w * turn room b 0) w (written (slots room w b (x ∷ xs))) (replicate w 0) in
    let s = slots_set room w b 0 (x ∷ xs) (replicate w 0) h l p (omega arith) in
    let z = replicate {A = ℕ} w 0 in
    let n : length (xs ++ replicate (room - suc (length xs)) z) + 1 ≡ room = omega (arith, length-append xs (replicate (room - suc (length xs)) z), length-replicate (room - suc (length xs)) z) in
    let t = turned_next room b z (xs ++ replicate (room - suc (length xs)) z) n p in
    let f = filled_pop room w xs l in
    let m : suc (length xs) - 1 ≡ length xs = omega arith in
    let v = next_slots room w b xs in
    let body = s ∙ ap written (sym t) ∙ ap (λ ys. written (turned (room - turn room b 1) ys)) f ∙ ap written (sym v) in
    rw (c, a, m, body) refl

pub row_held : (room w b i : ℕ) (xs : List Row) → Wide w xs → length xs ≤ room → b < room → i < length xs →
    row room w (encode room w b xs) i ≡ get_or xs i []
unfolding encode
row_held room w b i xs h l p q =
    let a = get_slot b (length xs) (w * turn room b i) w (written (slots room w b xs)) in
    let n = length_slots room w b xs l in
    let t = turn_within room b i p (omega arith) in
    let g = written_get w (slots room w b xs) (turn room b i) (wide_slots room w b xs h) (omega arith) in
    let u = turned_get room b i (filled room w xs) [] (length_filled room w xs l) p (omega arith) in
    let v = get_or_append_left xs (replicate (room - length xs) (replicate w 0)) [] i q in
    a ∙ g ∙ u ∙ v

-- what holds a channel has its shape
pub shape_held : (room w b : ℕ) (xs : List Row) (ws : List ℕ) → Holds room w b xs ws → Shape room w ws
unfolding encode
shape_held room w b xs ws h =
    let l = length_written w (slots room w b xs) (wide_slots room w b xs h.wide) in
    let n = length_slots room w b xs h.fits in
    rw h.words (rw l (rw n (omega arith)), h.within, h.fits)

pub appended_holds : (room w b : ℕ) (xs : List Row) (ws : List ℕ) (x : Row) → Holds room w b xs ws → length x ≡ w → length xs < room →
    (new : List ℕ) → new ≡ appended room w x ws → Holds room w b (xs ++ x ∷ []) new
appended_holds room w b xs ws x h e l new q =
    let n = length_push xs x in
    record {
      words = q ∙ ap (appended room w x) h.words ∙ appended_encode room w b xs x h.wide l h.within;
      wide = All-push (λ r. length r ≡ w) xs x h.wide e;
      fits = omega arith;
      within = h.within;
      anew = λ z. absurd (omega arith);
    }

pub taken_holds : (room w b : ℕ) (xs : List Row) (ws : List ℕ) (x : Row) → Holds room w b (x ∷ xs) ws →
    (new : List ℕ) → new ≡ taken room w ws → Holds room w (next room b (length xs + 1)) xs new
taken_holds room w b xs ws x h new q =
    let l = h.fits in
    let n : length xs + 1 ≡ suc (length xs) = omega arith in
    let p = h.within in
    record {
      words = q ∙ ap (taken room w) h.words ∙ rw n (taken_encode room w b xs x h.wide h.fits h.within);
      wide = h.wide.1;
      fits = omega arith;
      within = grind (arith, nat_tests);
      anew = λ z. grind (arith, nat_tests);
    }

pub get_held : (room w b i : ℕ) (xs : List Row) (ws : List ℕ) → Holds room w b xs ws → i < length xs → row room w ws i ≡ get_or xs i []
get_held room w b i xs ws h l = rw h.words (row_held room w b i xs h.wide h.fits h.within l)

-- a cleared part of the memory is an empty channel
pub cleared_holds : (room w : ℕ) → 0 < room → Holds room w 0 [] (replicate (2 + w * room) 0)
unfolding encode
cleared_holds room w h =
    let e : 2 + w * room ≡ suc (suc (w * room)) = omega arith in
    let t = turned_same (room - 0) (room - 0) (replicate {A = ℕ} w 0) in
    let z = written_zeros w (room - 0) in
    let r : room - 0 ≡ room = omega arith in
    record {
      words = rw (e, t, z, r) refl;
      wide = tt;
      fits = omega arith;
      within = h;
      anew = λ q. refl;
    }

-- one reading: what words hold is known from them
pub held_once : (room w b c : ℕ) (xs ys : List Row) (ws : List ℕ) → Holds room w b xs ws → Holds room w c ys ws → (b ≡ c) × (xs ≡ ys)
unfolding encode
held_once room w b c xs ys ws h k =
    let e = sym h.words ∙ k.words in
    let n : length xs ≡ length ys = ap (λ v. get_or v 1 0) e in (
      ap (λ v. get_or v 0 0) e,
      same_lists xs ys n
          (λ i d l.
          let p = get_held room w b i xs ws h l in
          let q = get_held room w c i ys ws k (omega arith) in
          get_or_default xs i d [] l ∙ sym p ∙ q ∙ get_or_default ys i [] d (omega arith)),
    )

pub count_held : (room w b : ℕ) (xs : List Row) (ws : List ℕ) → Holds room w b xs ws → get_or ws 1 0 ≡ length xs
unfolding encode
count_held room w b xs ws h = ap (λ v. get_or v 1 0) h.words

-- the first two words after a slot was written over
slot_front : (ws x : List ℕ) (a w k : ℕ) → 2 ≤ length ws → k < 2 → get_or (put_mid (2 + a) w ws x) k 0 ≡ get_or ws k 0
slot_front [] x a w k h l = absurd (omega arith)
slot_front (b ∷ []) x a w k h l = absurd (omega arith)
slot_front (b ∷ n ∷ ws) x a w k h l = rw (put_slot b n a w ws x) (go k l)
  where
    go : (j : ℕ) → j < 2 → get_or (b ∷ (n ∷ put_mid a w ws x)) j 0 ≡ get_or (b ∷ (n ∷ ws)) j 0
    go zero q = refl
    go (suc zero) q = refl
    go (suc (suc j)) q = absurd (omega arith)

-- a slot written over and the count made one more keep the shape
pub appended_shape : (room w a : ℕ) (ws x : List ℕ) → Shape room w ws → get_or ws 1 0 < room → (new : List ℕ) → length new ≡ length ws →
    new ≡ set (put_mid (2 + a) w ws x) 1 (get_or ws 1 0 + 1) → Shape room w new
appended_shape room w a ws x h l new n e =
    let f = slot_front ws x a w 0 (omega arith) (omega arith) in
    let k : 1 < length (put_mid (2 + a) w ws x) = omega (arith, ap length e, length-set (put_mid (2 + a) w ws x) 1 (get_or ws 1 0 + 1)) in
    let o = get_or-set_other (put_mid (2 + a) w ws x) 1 0 (get_or ws 1 0 + 1) 0 (λ z. omega arith) in
    let s = get_or-set_same (put_mid (2 + a) w ws x) 1 (get_or ws 1 0 + 1) 0 k in
    let p = ap (λ v. get_or v 0 0) e in
    let q = ap (λ v. get_or v 1 0) e in
    (omega arith, omega arith, omega arith)
