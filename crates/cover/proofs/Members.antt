-- Which filters are members of the lists that the operations on tables make.
use Rattle.std.proofs.Common.{◌≡◌, suc, ◌≤◌, Bool, true, false, cond, not, ◌&&◌, ◌||◌, ◌⊎◌, List, [], ◌∷◌, ◌++◌, length, sym, refl, ◌∙◌, arith}
use Rattle.std.proofs.lemmas.Bool.{or_cases, or_left, or_right}
use Rattle.filter.specs.Filter.{Filter, same, before}
use Rattle.filter.proofs.Laws.{same_tells, before_irrefl}
use Rattle.cover.specs.Maximal.{among, put, without, ordered, covered, uncovered, maximal, minus}
use Rattle.cover.specs.Sorted.{before_all, sorted}

pub among_append : (f : Filter) (gs hs : List Filter) → among f (gs ++ hs) ≡ (among f gs || among f hs)
unfolding among
among_append f [] hs = refl
among_append f (g ∷ gs) hs =
    let r = among_append f gs hs in
    grind (arith, same_tells)

pub among_put : (f g : Filter) (gs : List Filter) → among f (put g gs) ≡ (same f g || among f gs)
unfolding among put
among_put f g [] = refl
among_put f g (h ∷ gs) =
    let r = among_put f g gs in
    grind (arith, same_tells)

-- the first filter of a sorted list does not stand in the rest
pub before_all_among : (f g : Filter) (gs : List Filter) → before_all f gs ≡ true → among g gs ≡ true → before f g ≡ true
unfolding among before_all
before_all_among f g [] h m = grind arith
before_all_among f g (x ∷ gs) h m =
    let r = before_all_among f g gs in
    grind (arith, same_tells)

pub before_all_fresh : (f : Filter) (gs : List Filter) → before_all f gs ≡ true → among f gs ≡ false
before_all_fresh f gs h =
    let r = before_all_among f f gs in
    let i = before_irrefl f in
    grind arith

pub among_without : (f g : Filter) (gs : List Filter) → sorted gs ≡ true → among f (without g gs) ≡ (among f gs && not (same f g))
unfolding among without sorted
among_without f g [] h = refl
among_without f g (x ∷ gs) h =
    let r = among_without f g gs in
    let q = before_all_fresh x gs in
    grind (arith, same_tells)

pub among_ordered : (f : Filter) (gs : List Filter) → among f (ordered gs) ≡ among f gs
unfolding among ordered
among_ordered f [] = refl
among_ordered f (g ∷ gs) =
    let r = among_ordered f gs in
    let q = among_put f g (ordered gs) in
    cc

pub among_uncovered : (f : Filter) (all gs : List Filter) → among f (uncovered all gs) ≡ (among f gs && not (covered f all))
unfolding among uncovered
among_uncovered f all [] = refl
among_uncovered f all (g ∷ gs) =
    let r = among_uncovered f all gs in
    grind (arith, same_tells)

pub among_minus : (f : Filter) (gs hs : List Filter) → among f (minus gs hs) ≡ (among f gs && not (among f hs))
unfolding among minus
among_minus f [] hs = refl
among_minus f (g ∷ gs) hs =
    let r = among_minus f gs hs in
    grind (arith, same_tells)

pub among_maximal : (f : Filter) (fs : List Filter) → among f (maximal fs) ≡ (among f fs && not (covered f fs))
unfolding maximal
among_maximal f fs =
    let r = among_uncovered f fs (ordered fs) in
    let q = among_ordered f fs in
    cc

-- a member of one of two lists is one of both together, and back
pub among_left : (f : Filter) (gs hs : List Filter) → among f gs ≡ true → among f (gs ++ hs) ≡ true
among_left f gs hs h = among_append f gs hs ∙ or_left (among f gs) (among f hs) h

pub among_right : (f : Filter) (gs hs : List Filter) → among f hs ≡ true → among f (gs ++ hs) ≡ true
among_right f gs hs h = among_append f gs hs ∙ or_right (among f gs) (among f hs) h

pub among_parts : (f : Filter) (gs hs : List Filter) → among f (gs ++ hs) ≡ true → (among f gs ≡ true) ⊎ (among f hs ≡ true)
among_parts f gs hs h = or_cases (among f gs) (among f hs) (sym (among_append f gs hs) ∙ h)

pub length_minus : (fs gs : List Filter) → length (minus fs gs) ≤ length fs
unfolding minus
length_minus [] gs = omega arith
length_minus (f ∷ fs) gs = go (among f gs) (length_minus fs gs)
  where
    go : (v : Bool) → length (minus fs gs) ≤ length fs → length (cond v (minus fs gs) (f ∷ minus fs gs)) ≤ suc (length fs)
    go true r = omega arith
    go false r = omega arith
