-- A pass over rows that keeps some of them: in place, and into other words.
use Rattle.std.proofs.Common.{◌≡◌, ℕ, ◌+◌, ◌-◌, ◌*◌, ◌<◌, ◌≤◌, true, false, cond, List, [], ◌∷◌, ◌++◌, length, take, drop, sym, refl, subst, ap, ◌∙◌, mul-le-mul_left, mul-zero, arith}
use borrow.Rule.Slice.PartMut.{put_mid}
use lib.Seq.{paste}
use Rattle.std.proofs.lemmas.List.{append-nil, append_assoc, length-append, length-drop, length_push, take_at, drop_at, drop-drop}
use Rattle.std.proofs.lemmas.List.Edits.{take-paste, drop-paste}
use Rattle.filter.specs.Filter.{Filter, covers}
use Rattle.cover.specs.Maximal.{among, outside, minus}
use Rattle.cover.specs.Table.{rows, written, Wide}
use Rattle.cover.proofs.Members.{among_append}
use Rattle.cover.proofs.RowLaws.{next, rows_push, written_append}
use Rattle.filter.proofs.Laws.{same_refl}

pub outside_push : (f g : Filter) (gs : List Filter) → outside f (gs ++ g ∷ []) ≡ cond (covers f g) (outside f gs) (outside f gs ++ g ∷ [])
unfolding outside
outside_push f g [] = refl
outside_push f g (x ∷ gs) =
    let r = outside_push f g gs in
    grind arith

pub written_push : (fs : List Filter) (f : Filter) → written (fs ++ f ∷ []) ≡ written fs ++ f
unfolding written
written_push fs f = written_append fs (f ∷ []) ∙ ap (λ xs. written fs ++ xs) (append-nil f)

-- of the first i rows of xs those that f does not cover stand in the first k rows of ys, and from the row i on ys is as it was
pub record Keeping (f : Filter) (w : ℕ) (xs ys : List ℕ) (k i : ℕ) : Type 0 where
  pub front : take (w * k) ys ≡ written (outside f (rows w i xs))
  pub rest : drop (w * i) ys ≡ drop (w * i) xs
  pub counted : k ≡ length (outside f (rows w i xs))
  pub behind : k ≤ i

pub keeping_none : (f : Filter) (w : ℕ) (xs : List ℕ) → Keeping f w xs xs 0 0
unfolding rows written outside
keeping_none f w xs = record { front = rw (mul-zero w) refl; rest = refl; counted = refl; behind = omega arith }

-- the row at i is covered
pub keeping_skip : (f : Filter) (w : ℕ) (xs ys : List ℕ) (k i : ℕ) → Keeping f w xs ys k i → covers f (take w (drop (w * i) ys)) ≡ true → Keeping f w xs ys k (i + 1)
keeping_skip f w xs ys k i h c =
    let same_row = ap (take w) h.rest in
    let p = rows_push w i xs in
    let o = outside_push f (take w (drop (w * i) xs)) (rows w i xs) in
    let q : outside f (rows w (i + 1) xs) ≡ outside f (rows w i xs) = grind arith in
    let b = h.behind in
    let dx = drop-drop w (w * i) xs in
    let dy = drop-drop w (w * i) ys in
    let r = ap (drop w) h.rest in
    record { front = h.front ∙ ap written (sym q); rest = rw (next w i) (sym dy ∙ (r ∙ dx)); counted = h.counted ∙ ap length (sym q); behind = omega arith }

-- the row at i is kept: it is copied to the place k
pub keeping_keep : (f : Filter) (w : ℕ) (xs ys : List ℕ) (k i : ℕ) → Keeping f w xs ys k i → covers f (take w (drop (w * i) ys)) ≡ false → w * i + w ≤ length ys →
    Keeping f w xs (paste ys (w * k) (drop (w * i) ys) w) (k + 1) (i + 1)
keeping_keep f w xs ys k i h c b =
    let same_row = ap (take w) h.rest in
    let p = rows_push w i xs in
    let o = outside_push f (take w (drop (w * i) xs)) (rows w i xs) in
    let q : outside f (rows w (i + 1) xs) ≡ outside f (rows w i xs) ++ take w (drop (w * i) xs) ∷ [] = grind arith in
    let n = h.behind in
    let m = mul-le-mul_left w n in
    let l = length-drop (w * i) ys in
    let t = take-paste ys (w * k) (drop (w * i) ys) w (omega arith) (omega arith) in
    let u = drop-paste ys (w * k) (drop (w * i) ys) w (omega arith) (omega arith) in
    let v = written_push (outside f (rows w i xs)) (take w (drop (w * i) xs)) in
    let a = drop-drop (w * i - w * k) (w * k + w) (paste ys (w * k) (drop (w * i) ys) w) in
    let d = drop-drop (w * i - w * k) (w * k + w) ys in
    let e : w * k + w + (w * i - w * k) ≡ w * i + w = omega arith in
    let dx = drop-drop w (w * i) xs in
    let dy = drop-drop w (w * i) ys in
    let r = ap (drop w) h.rest in
    let z = length_push (outside f (rows w i xs)) (take w (drop (w * i) xs)) in
    let counts = h.counted in
    let fr = h.front in
    record {
      front = rw (next w k, q) (cc);
      rest = rw (next w i) (cc);
      counted = rw q (omega arith);
      behind = omega arith;
    }

-- at the end the rows that are left over are blank
pub keeping_done : (f : Filter) (w : ℕ) (xs ys zs : List ℕ) (k n : ℕ) → Keeping f w xs ys k n → w * n ≤ length ys →
    put_mid (w * k) (w * n - w * k) ys zs ≡ written (outside f (rows w n xs)) ++ (zs ++ drop (w * n) xs)
keeping_done f w xs ys zs k n h b =
    let m = mul-le-mul_left w h.behind in
    let d = drop-drop (w * n - w * k) (w * k) ys in
    let e : w * k + (w * n - w * k) ≡ w * n = omega arith in
    rw (h.front, d, e, h.rest) refl

pub minus_push : (f : Filter) (fs gs : List Filter) → minus (fs ++ f ∷ []) gs ≡ cond (among f gs) (minus fs gs) (minus fs gs ++ f ∷ [])
unfolding minus
minus_push f [] gs = refl
minus_push f (x ∷ fs) gs =
    let r = minus_push f fs gs in
    grind arith

-- of the rows that were gone through those that gs lacks stand in the first k rows of ys, and past that ys is as zs was
pub record Picked (gs : List Filter) (w : ℕ) (zs : List ℕ) (done : List Filter) (ys : List ℕ) (k : ℕ) : Type 0 where
  pub words : ys ≡ written (minus done gs) ++ drop (w * k) zs
  pub long : length (written (minus done gs)) ≡ w * k
  pub counted : k ≡ length (minus done gs)

pub picked_none : (gs : List Filter) (w : ℕ) (zs : List ℕ) → Picked gs w zs [] zs 0
unfolding written minus
picked_none gs w zs = record { words = rw (mul-zero w) refl; long = sym (mul-zero w); counted = refl }

pub picked_skip : (gs : List Filter) (w : ℕ) (zs : List ℕ) (done : List Filter) (ys : List ℕ) (k : ℕ) (f : Filter) → Picked gs w zs done ys k → among f gs ≡ true → Picked gs w zs (done ++ f ∷ []) ys k
picked_skip gs w zs done ys k f h c =
    let o = minus_push f done gs in
    let q : minus (done ++ f ∷ []) gs ≡ minus done gs = grind arith in
    record { words = rw q h.words; long = rw q h.long; counted = rw q h.counted }

pub picked_one : (gs : List Filter) (w : ℕ) (zs : List ℕ) (done : List Filter) (ys : List ℕ) (k : ℕ) (f : Filter) → Picked gs w zs done ys k → among f gs ≡ false → length f ≡ w →
    Picked gs w zs (done ++ f ∷ []) (put_mid (w * k) w ys f) (k + 1)
picked_one gs w zs done ys k f h c l =
    let o = minus_push f done gs in
    let q : minus (done ++ f ∷ []) gs ≡ minus done gs ++ f ∷ [] = grind arith in
    let v = written_push (minus done gs) f in
    let z = length_push (minus done gs) f in
    let t = take_at (written (minus done gs)) (drop (w * k) zs) (w * k) h.long in
    let d = drop_at (written (minus done gs)) (drop (w * k) zs) (w * k) h.long in
    let e = drop-drop w (w * k) zs in
    let m = length-append (written (minus done gs)) f in
    let counts = h.counted in
    let was = h.long in
    record {
      words = rw (q, v, next w k, h.words, t, d, e) (sym (append_assoc (written (minus done gs)) f (drop (w * k + w) zs)));
      long = rw (q, v, next w k) (omega arith);
      counted = rw q (omega arith);
    }

-- a row more, where these rows were gone through and those are left
pub gone_through : (done rest all : List Filter) (f : Filter) (left : List Filter) → done ++ left ≡ all → left ≡ f ∷ rest → (done ++ f ∷ []) ++ rest ≡ all
gone_through done rest all f left e g = append_assoc done (f ∷ []) rest ∙ (ap (λ xs. done ++ xs) (sym g) ∙ e)

pub gone_all : (done all left : List Filter) → done ++ left ≡ all → left ≡ [] → done ≡ all
gone_all done all left e g = sym (append-nil done) ∙ (ap (λ xs. done ++ xs) (sym g) ∙ e)

-- a row that is still to come is as wide as the others, and fewer than all were gone through
pub yet_to_come : (w : ℕ) (done rest all : List Filter) (f : Filter) (left : List Filter) → Wide w all → done ++ left ≡ all → left ≡ f ∷ rest → (length f ≡ w) × (length done < length all)
unfolding among
yet_to_come w done rest all f left h e g =
    let a = among_append f done (f ∷ rest) in
    let s = same_refl f in
    let l = length-append done (f ∷ rest) in
    let k : done ++ (f ∷ rest) ≡ all = ap (λ xs. done ++ xs) (sym g) ∙ e in
    (h f (subst (λ xs. among f xs ≡ true) k (grind arith)), subst (λ xs. length done < length xs) k (omega arith))
