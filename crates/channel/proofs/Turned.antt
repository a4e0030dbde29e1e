-- A list turned by some places: the slot of a row, a row written there, and a ring that begins one slot on.
use Rattle.std.proofs.Common.{◌≡◌, ℕ, suc, ◌+◌, ◌-◌, ◌<◌, ◌≤◌, Bool, true, false, cond, ltb, List, [], ◌∷◌, ◌++◌, length, get_or, take, drop, set, replicate, refl, ap, ◌∙◌, arith, rules}
use lib.Seq.{take-set-lt}
use Rattle.std.proofs.lemmas.List.{places, same_lists, append_assoc, length-append, length-drop, length-take, length_push, set-append_left, set-append_right, drop-set-lt, drop-set-add, take-set-le, drop-append-le, take-append-le, drop_all, take_all}
use Rattle.std.proofs.lemmas.Bool.{ltb-true, ltb-false}
use Rattle.std.proofs.lemmas.Bool.Decides.{nat_tests}
use Rattle.channel.specs.Ring.{turned, turn}

pub length_turned : {X : Type 0} (k : ℕ) (ys : List X) → length (turned k ys) ≡ length ys
length_turned k ys =
    let a = length-append (drop k ys) (take k ys) in
    let b = length-drop k ys in
    let c = length-take k ys in
    omega arith

pub turn_within : (room b i : ℕ) → b < room → i < room → turn room b i < room
turn_within room b i p q = grind (arith, nat_tests)

pub turned_get : {X : Type 0} (room b i : ℕ) (ys : List X) (d : X) → length ys ≡ room → b < room → i < room →
    get_or (turned (room - b) ys) (turn room b i) d ≡ get_or ys i d
turned_get room b i ys d e p q = grind (arith, nat_tests, places)

pub turned_set : {X : Type 0} (room b i : ℕ) (ys : List X) (x : X) → length ys ≡ room → b < room → i < room →
    set (turned (room - b) ys) (turn room b i) x ≡ turned (room - b) (set ys i x)
turned_set {X} room b i ys x e p q = go (ltb i (room - b)) refl
  where
    l : length (drop (room - b) ys) ≡ b
    l = omega (arith, length-drop (room - b) ys)

    go : (t : Bool) → ltb i (room - b) ≡ t → set (turned (room - b) ys) (cond t (b + i) (i - (room - b))) x ≡ turned (room - b) (set ys i x)
    go true t =
        let h = ltb-true i (room - b) t in
        let a = set-append_right (drop (room - b) ys) (take (room - b) ys) b (b + i) x l (omega arith) in
        let f : b + i - b ≡ i = omega arith in
        let d = drop-set-lt (room - b) ys i x h in
        let k = take-set-lt (room - b) ys i x h in
        rw (a, f, d, k) refl
    go false t =
        let h = ltb-false i (room - b) t in
        let n : i - (room - b) < length (drop (room - b) ys) = omega (arith, l) in
        let a = set-append_left (drop (room - b) ys) (take (room - b) ys) (i - (room - b)) x n in
        let f : room - b + (i - (room - b)) ≡ i = omega arith in
        let d = drop-set-add (room - b) ys (i - (room - b)) x in
        let k = take-set-le (room - b) ys i x h in
        rw (a, k, ← d, f) refl

-- the first of a list put behind the others, turned one place less
turned_on : {X : Type 0} (k : ℕ) (z : X) (us : List X) → k ≤ length us → turned k (us ++ z ∷ []) ≡ turned (suc k) (z ∷ us)
turned_on k z us h =
    let d = drop-append-le k us (z ∷ []) h in
    let t = take-append-le k us (z ∷ []) h in
    rw (d, t) (append_assoc (drop k us) (z ∷ []) (take k us))

-- a ring whose first row is put behind the others, and that begins one slot on
pub turned_next : {X : Type 0} (room b : ℕ) (z : X) (us : List X) → length us + 1 ≡ room → b < room →
    turned (room - turn room b 1) (us ++ z ∷ []) ≡ turned (room - b) (z ∷ us)
turned_next {X} room b z us e p = go (ltb 1 (room - b)) refl
  where
    go : (t : Bool) → ltb 1 (room - b) ≡ t → turned (room - cond t (b + 1) (1 - (room - b))) (us ++ z ∷ []) ≡ turned (room - b) (z ∷ us)
    go true t =
        let k : suc (room - (b + 1)) ≡ room - b = omega arith in
        let s = turned_on (room - (b + 1)) z us (omega arith) in
        s ∙ ap (λ n. turned n (z ∷ us)) k
    go false t =
        let h = ltb-false 1 (room - b) t in
        let f : room - (1 - (room - b)) ≡ length (us ++ z ∷ []) = omega (arith, length_push us z) in
        let o : room - b ≡ 1 = omega arith in
        let d = drop_all (length (us ++ z ∷ [])) (us ++ z ∷ []) (omega arith) in
        let s = take_all (length (us ++ z ∷ [])) (us ++ z ∷ []) (omega arith) in
        rw (f, d, s, o) refl

-- a list of one value only, turned
pub turned_same : {X : Type 0} (k n : ℕ) (z : X) → turned k (replicate n z) ≡ replicate n z
turned_same {X} k n z = same_lists _ _ (search (rules, places, length_turned)) (λ j d h. grind (arith, places))
