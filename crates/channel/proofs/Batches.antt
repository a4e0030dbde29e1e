-- A batch of messages: the words of each, and the rows that a channel holds after all were appended.
use Rattle.std.proofs.Common.{◌≡◌, ℕ, zero, suc, ◌+◌, ◌*◌, ◌≤◌, List, [], ◌∷◌, ◌++◌, map, length, take, drop, replicate, Bool, true, false, cond, ltb, Result, Ok, Err, is_ok, true≢false, sym, ap, refl, subst, ◌∙◌, mul-suc, arith}
use Rattle.std.proofs.lemmas.List.{append-nil, append_assoc, length-map, length-drop, length_push, length-take-le, take_at, take-take}
use Rattle.filter.specs.Filter.{Filter, padded}
use Rattle.cover.specs.Table.{rows}
use Rattle.cover.specs.Rows.{listed}
use Rattle.cover.specs.declared.rows.Rows.{Rows}
use Rattle.cover.proofs.RowLaws.{length_rows}
use Rattle.std.proofs.lemmas.Bool.Decides.{nat_tests}
use Rattle.channel.specs.declared.ring.Full.{Full}
use Rattle.channel.specs.declared.batch.Change.{Change}
use Rattle.channel.specs.declared.batch.Change.TheVariants.{Add, Cut}
use Rattle.channel.specs.Ring.{Row, Wide, Holds, appended, appended_all}
use Rattle.channel.specs.Batch.{told, all_told}
use Rattle.channel.proofs.Held.{appended_holds}

-- a filter by value, cut to its numbers
pub take_padded : (m : ℕ) (f : List ℕ) → m ≤ 8 → length f ≡ 2 * m → take (2 * m) (padded 16 f) ≡ f
take_padded m f h l =
    let t = take-take (2 * m) 16 (f ++ replicate 16 0) (omega arith) in
    t ∙ take_at f (replicate 16 0) (2 * m) l

pub length_told : (change : Change) (f : List ℕ) → length (told change f) ≡ 2 + length f
length_told Add f = omega arith
length_told Cut f = omega arith

wide_rows : (change : Change) (w n : ℕ) (xs : List ℕ) → w * n ≤ length xs → Wide (2 + w) (map (told change) (rows w n xs))
unfolding rows
wide_rows change w zero xs h = tt
wide_rows change w (suc n) xs h =
    let k : w + w * n ≤ length xs = omega (arith, mul-suc w n) in
    let l = length-take-le w xs (omega arith) in
    let t = length_told change (take w xs) in
    (omega arith, wide_rows change w n (drop w xs) (omega (arith, length-drop w xs)))

-- the messages for the filters of rows: as wide as a slot, and as many as there are
pub wide_told : (change : Change) (m : ℕ) (r : Rows) → r.width ≡ 2 * m → Wide (2 + 2 * m) (all_told change (listed r))
wide_told change m r e = subst (λ w. Wide (2 + w) (all_told change (listed r))) e (wide_rows change r.width r.left r.words.now r.there)

pub length_all_told : (change : Change) (r : Rows) → length (all_told change (listed r)) ≡ r.left
length_all_told change r = length-map (listed r) (told change) ∙ length_rows r.width r.left r.words.now

-- a channel that refuses is full
pub refuses_full : (n room : ℕ) (r : Result (Unit {0}) Full) → r ≡ cond (ltb n room) (Ok tt) (Err (record {})) → is_ok r ≡ false → room ≤ n
refuses_full n room r h e = go (ltb n room) refl h
  where
    go : (b : Bool) → ltb n room ≡ b → r ≡ cond b (Ok tt) (Err (record {})) → room ≤ n
    go true q g = absurd (true≢false (sym (ap is_ok g) ∙ e))
    go false q g = grind (arith, nat_tests)

-- the first message of a batch appended, and the others then
pub appended_next : (room w : ℕ) (change : Change) (f : Filter) (rest left : List Filter) (ws : List ℕ) → left ≡ f ∷ rest →
    appended_all room w (all_told change rest) (appended room w (told change f) ws) ≡ appended_all room w (all_told change left) ws
unfolding appended_all
appended_next room w change f rest left ws e = rw e refl

pub appended_none : (room w : ℕ) (change : Change) (left : List Filter) (ws : List ℕ) → left ≡ [] → ws ≡ appended_all room w (all_told change left) ws
unfolding appended_all
appended_none room w change left ws e = rw e refl

pub appended_all_holds : (room w b : ℕ) (ys xs : List Row) (ws : List ℕ) → Holds room w b xs ws → Wide w ys → length xs + length ys ≤ room →
    Holds room w b (xs ++ ys) (appended_all room w ys ws)
unfolding appended_all
appended_all_holds room w b [] xs ws h wide l = rw append-nil h
appended_all_holds room w b (y ∷ ys) xs ws h wide l =
    let p = appended_holds room w b xs ws y h wide.0 (omega arith) (appended room w y ws) refl in
    let n = length_push xs y in
    let r = appended_all_holds room w b ys (xs ++ y ∷ []) (appended room w y ws) p wide.1 (omega arith) in
    rw append_assoc at r
