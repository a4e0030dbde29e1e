-- Tables in words: what a table keeps after a filter was put in or taken out.
use Rattle.std.proofs.Common.{◌≡◌, ℕ, suc, ◌+◌, ◌-◌, ◌*◌, ◌<◌, ◌≤◌, Bool, true, false, cond, List, [], ◌∷◌, length, get_or, replicate, sym, ap, ◌∙◌, ⊎_elim, mul-le-mul_left, arith}
use Rattle.std.proofs.lemmas.List.{length-append, length-replicate}
use Rattle.std.proofs.lemmas.Bool.{cases_lt}
use Rattle.filter.specs.Filter.{Filter, same}
use Rattle.cover.specs.Maximal.{among, put, without}
use Rattle.cover.specs.Table.{Wide, held, stored, laid, written, changed}
use Rattle.cover.proofs.RowLaws.{length_written, wide_head, wide_tail}
use Rattle.cover.proofs.TableLaws.{held_laid, stored_laid, wide_cons, wide_put, length_put, laid_none}
use Rattle.broker.specs.Announcing.{Keeps}

pub held_kept : (room m : ℕ) (fs : List Filter) (ws : List ℕ) → Keeps room m fs ws → held (2 * m) ws ≡ fs
held_kept room m fs ws h = ap (held (2 * m)) h.words ∙ held_laid (2 * m) (1 + 2 * m * room) fs h.wide

pub count_kept : (room m : ℕ) (fs : List Filter) (ws : List ℕ) → Keeps room m fs ws → get_or ws 0 0 ≡ length fs
unfolding laid
count_kept room m fs ws h = ap (λ t. get_or t 0 0) h.words

pub length_kept : (room m : ℕ) (fs : List Filter) (ws : List ℕ) → Keeps room m fs ws → length ws ≡ 1 + 2 * m * room
unfolding laid
length_kept room m fs ws h =
    let e = ap length h.words in
    let l = length_written (2 * m) fs h.wide in
    let p = mul-le-mul_left (2 * m) h.fits in
    let a = length-append (written fs) (replicate (1 + 2 * m * room - (1 + 2 * m * length fs)) 0) in
    let b = length-replicate {A = ℕ} (1 + 2 * m * room - (1 + 2 * m * length fs)) 0 in
    omega arith

-- other filters in place of those that a table keeps
pub with_kept : (room m : ℕ) (fs gs : List Filter) (ws : List ℕ) → Keeps room m fs ws → Wide (2 * m) gs → length gs ≤ room →
    (new : List ℕ) → new ≡ stored (2 * m) gs ws → Keeps room m gs new
with_kept room m fs gs ws h wide fits new e =
    let p = mul-le-mul_left (2 * m) h.fits in
    let s = stored_laid (2 * m) (1 + 2 * m * room) fs gs h.wide (omega arith) in
    record { words = e ∙ ap (stored (2 * m) gs) h.words ∙ s; wide = wide; fits = fits }

-- where the words have room for one more, so has the table
room_for : (w n room : ℕ) → 0 < w → w * n + w ≤ w * room → suc n ≤ room
room_for w n room p h = ⊎_elim (λ q. q) (λ q. absurd (omega (arith, mul-le-mul_left w q))) (cases_lt n room)

pub put_kept : (room m : ℕ) (f : Filter) (fs : List Filter) (ws : List ℕ) → Keeps room m fs ws → 1 ≤ m → length f ≡ 2 * m → 1 + (2 * m * get_or ws 0 0 + 2 * m) ≤ length ws →
    (new : List ℕ) → new ≡ changed (2 * m) (put f) ws → Keeps room m (put f fs) new
put_kept room m f fs ws h p l r new e =
    let s = held_kept room m fs ws h in
    let c = ap (λ n. 2 * m * n) (count_kept room m fs ws h) in
    let n = length_kept room m fs ws h in
    let k = room_for (2 * m) (length fs) room (omega arith) (omega arith) in
    let a = length_put f fs in
    with_kept room m fs (put f fs) ws h (wide_put (2 * m) f fs l h.wide) (omega arith) new (rw s at e)

length_without : (f : Filter) (fs : List Filter) → length (without f fs) ≤ length fs
unfolding without
length_without f [] = omega arith
length_without f (g ∷ fs) =
    let r = length_without f fs in
    grind arith

wide_without : (w : ℕ) (f : Filter) (fs : List Filter) → Wide w fs → Wide w (without f fs)
unfolding without
wide_without w f [] h = h
wide_without w f (g ∷ fs) h = go (same f g) (wide_without w f fs (wide_tail w g fs h))
  where
    go : (t : Bool) → Wide w (without f fs) → Wide w (cond t fs (g ∷ without f fs))
    go true r = wide_tail w g fs h
    go false r = wide_cons w g (without f fs) (wide_head w g fs h) r

pub without_kept : (room m : ℕ) (f : Filter) (fs : List Filter) (ws : List ℕ) → Keeps room m fs ws →
    (new : List ℕ) → new ≡ changed (2 * m) (without f) ws → Keeps room m (without f fs) new
without_kept room m f fs ws h new e =
    let s = held_kept room m fs ws h in
    let a = length_without f fs in
    let b = h.fits in
    with_kept room m fs (without f fs) ws h (wide_without (2 * m) f fs h.wide) (omega arith) new (rw s at e)

-- a cleared table keeps nothing
pub cleared_keeps : (room m : ℕ) → Keeps room m [] (replicate (1 + 2 * m * room) 0)
unfolding among
cleared_keeps room m =
    record { words = sym (laid_none (2 * m) (1 + 2 * m * room) (omega arith)); wide = λ f a. absurd (grind arith); fits = omega arith }
