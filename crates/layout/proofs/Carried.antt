-- The messages that a channel's words carry.
use Rattle.std.proofs.Common.{◌≡◌, ℕ, ◌+◌, ◌*◌, ◌<◌, List, [], ◌∷◌, ◌++◌, map, length, get_or, take, drop, replicate, sym, refl, ap, ◌∙◌, subst, arith}
use Rattle.std.specs.List.{AllByRecursion}
use Rattle.std.proofs.lemmas.List.{places, same_lists, get_or_default, get_or-take, length-take-le, drop-drop, length-map, map-append, take_at}
use Rattle.std.proofs.ByRecursion.{All-append}
use Rattle.std.proofs.lemmas.Bool.Decides.{nat_tests}
use Rattle.cover.specs.Table.{rows}
use Rattle.cover.proofs.RowLaws.{length_rows, rows_more}
use Rattle.channel.specs.Ring.{Row, Holds, Shape, turned, turn, encode}
use Rattle.channel.proofs.Held.{shape_held, get_held, count_held, cleared_holds}
use Rattle.channel.proofs.Turned.{length_turned, turn_within}
use Rattle.model.specs.Model.{Message, add, cut, notice}
use Rattle.layout.specs.Mail.{row_for, message_in, Sized, under_way, Carries}

-- the row at a place
rows_get : (w n : ℕ) (xs : List ℕ) (i : ℕ) → i < n → get_or (rows w n xs) i [] ≡ take w (drop (w * i) xs)
rows_get w n xs i h =
    let l = length_rows w n xs in
    let r = ap (λ ys. get_or ys 0 []) (rows_more w n xs i h) in
    let p : get_or (drop i (rows w n xs)) 0 [] ≡ get_or (rows w n xs) i [] = grind (arith, places) in
    sym p ∙ r

-- a ring read from where it begins
turned_at : {X : Type 0} (room b i : ℕ) (ys : List X) (d : X) → length ys ≡ room → b < room → i < room → get_or (turned b ys) i d ≡ get_or ys (turn room b i) d
turned_at room b i ys d e p q = grind (arith, nat_tests, places)

-- the rows of a channel, read from its words
rows_held : (room w b : ℕ) (xs : List Row) (ws : List ℕ) → Holds room w b xs ws → take (get_or ws 1 0) (turned (get_or ws 0 0) (rows w room (drop 2 ws))) ≡ xs
rows_held room w b xs ws h =
    let c = count_held room w b xs ws h in
    let s = shape_held room w b xs ws h in
    let l = length_rows w room (drop 2 ws) in
    let t = length_turned (get_or ws 0 0) (rows w room (drop 2 ws)) in
    let n = length-take-le (get_or ws 1 0) (turned (get_or ws 0 0) (rows w room (drop 2 ws))) (omega arith) in
    same_lists _ xs (n ∙ c) (λ i d p.
    let q : i < length xs = omega arith in
    let j = turn room (get_or ws 0 0) i in
    let k = turn_within room (get_or ws 0 0) i s.1 (omega (arith, h.fits)) in
    get_or-take (get_or ws 1 0) _ i d (omega arith)
    ∙ turned_at room (get_or ws 0 0) i (rows w room (drop 2 ws)) d l s.1 (omega (arith, h.fits))
    ∙ get_or_default (rows w room (drop 2 ws)) j d [] (omega arith)
    ∙ rows_get w room (drop 2 ws) j k
    ∙ ap (take w) (drop-drop (w * j) 2 ws)
    ∙ get_held room w b i xs ws h q
    ∙ get_or_default xs i [] d q)

begins : (room w b : ℕ) (xs : List Row) (ws : List ℕ) → Holds room w b xs ws → get_or ws 0 0 ≡ b
unfolding encode
begins room w b xs ws h = ap (λ v. get_or v 0 0) h.words

-- a message read back from its words
row_back : (m : ℕ) (x : Message) → Sized m x → message_in m (row_for m x) ≡ x
row_back m (add f) h = refl
row_back m (cut f) h = refl
row_back m (notice k e) h = ap (notice k) (take_at e (replicate m 0) m h)

rows_back : (m : ℕ) (ms : List Message) → AllByRecursion (Sized m) ms → map (message_in m) (map (row_for m) ms) ≡ ms
rows_back m [] h = refl
rows_back m (x ∷ ms) h = λ i. row_back m x h.0 i ∷ rows_back m ms h.1 i

module _ (room m : ℕ) (ms : List Message) (ws : List ℕ) (h : Carries room m ms ws) where
  pub carries_read : under_way room m ws ≡ ms
  unfolding under_way
  carries_read = ap (map (message_in m)) (rows_held room (2 + 2 * m) (get_or ws 0 0) (map (row_for m) ms) ws h.rows) ∙ rows_back m ms h.sized

  pub carries_shape : Shape room (2 + 2 * m) ws
  carries_shape = shape_held room (2 + 2 * m) (get_or ws 0 0) (map (row_for m) ms) ws h.rows

  pub carries_length : length ws ≡ 2 + (2 + 2 * m) * room
  carries_length = carries_shape.0

  pub carries_count : get_or ws 1 0 ≡ length ms
  carries_count = count_held room (2 + 2 * m) (get_or ws 0 0) (map (row_for m) ms) ws h.rows ∙ length-map ms (row_for m)

-- words that hold the rows of messages, wherever the ring begins
carries_from : (room m b : ℕ) (ms : List Message) (ws : List ℕ) → Holds room (2 + 2 * m) b (map (row_for m) ms) ws → AllByRecursion (Sized m) ms → Carries room m ms ws
carries_from room m b ms ws h s =
    record { rows = subst (λ c. Holds room (2 + 2 * m) c (map (row_for m) ms) ws) (sym (begins room (2 + 2 * m) b (map (row_for m) ms) ws h)) h; sized = s }

pub carries_none : (room m : ℕ) → 0 < room → Carries room m [] (replicate (2 + (2 + 2 * m) * room) 0)
carries_none room m h = carries_from room m 0 [] (replicate (2 + (2 + 2 * m) * room) 0) (cleared_holds room (2 + 2 * m) h) tt

pub carries_more : (room m : ℕ) (ms ns : List Message) (ws ws' : List ℕ) → Carries room m ms ws → AllByRecursion (Sized m) ns →
    Holds room (2 + 2 * m) (get_or ws 0 0) (map (row_for m) ms ++ map (row_for m) ns) ws' → Carries room m (ms ++ ns) ws'
carries_more room m ms ns ws ws' c s h =
    carries_from room m (get_or ws 0 0) (ms ++ ns) ws' (rw map-append h) (All-append (Sized m) ms ns c.sized s)

pub carries_less : (room m : ℕ) (x : Message) (ms : List Message) (ws ws' : List ℕ) (begin : ℕ) → Carries room m (x ∷ ms) ws →
    Holds room (2 + 2 * m) begin (map (row_for m) ms) ws' → Carries room m ms ws'
carries_less room m x ms ws ws' begin c h = carries_from room m begin ms ws' h c.sized.1
