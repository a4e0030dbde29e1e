-- The laws of the maximal filters of a list.
use Rattle.std.proofs.Common.{◌≡◌, ◌≤◌, Bool, true, false, cond, not, ◌&&◌, ◌||◌, ◌⊎◌, List, [], ◌∷◌, ◌++◌, length, sym, refl, ◌∙◌, arith}
use Rattle.filter.specs.Filter.{Filter, Notice, covers, same}
use Rattle.filter.proofs.Laws.{same_tells, same_refl, covers_trans, covers_antisym, covers_self_left, covers_self_right, covers_matches}
use Rattle.cover.specs.Maximal.{among, ordered, covered, uncovered, maximal, any_matches, any_covers, outside, insert}
use Rattle.cover.specs.Sorted.{sorted}
use Rattle.cover.proofs.Members.{among_append, among_put, among_maximal}
use Rattle.cover.proofs.Order.{sorted_put, sorted_maximal, sorted_ext, sorted_length, before_all_part}
use Rattle.cover.proofs.Covering.{matches_self, any_covers_among, any_covers_find, any_covers_part, any_covers_trans, any_matches_among, any_matches_find, any_matches_part, covered_among, covered_find, covered_part, covered_append, covered_any_covers}

pub maximal_member : (f : Filter) (fs : List Filter) → among f (maximal fs) ≡ true → among f fs ≡ true
maximal_member f fs m =
    let r = among_maximal f fs in
    grind arith

-- they are no more than the filters of the list
pub length_maximal : (fs : List Filter) → length (maximal fs) ≤ length fs
length_maximal fs = sorted_length (maximal fs) fs (sorted_maximal fs) (λ f m. maximal_member f fs m)

-- of the maximal filters none covers another
pub maximal_antichain : (f g : Filter) (fs : List Filter) → among f (maximal fs) ≡ true → among g (maximal fs) ≡ true → covers f g ≡ true → f ≡ g
maximal_antichain f g fs mf mg c =
    let a = among_maximal f fs in
    let b = among_maximal g fs in
    let k = covered_among f g fs in
    grind (arith, same_tells)

-- from a filter up through a list: a filter that covers it and that no other of the list covers
pub climb : (f : Filter) (fs : List Filter) → covers f f ≡ true → (g : Filter) × (covers g f ≡ true) × ((same g f || among g fs) ≡ true) × (covered g fs ≡ false)
unfolding among covered
climb f [] c =
    let s = same_refl f in
    (f, c, grind arith, refl)
climb f (x ∷ fs) c = go (covers x f) refl (climb f fs) (climb x fs)
  where
    go : (b : Bool) → covers x f ≡ b
        → (covers f f ≡ true → (g : Filter) × (covers g f ≡ true) × ((same g f || among g fs) ≡ true) × (covered g fs ≡ false))
        → (covers x x ≡ true → (g : Filter) × (covers g x ≡ true) × ((same g x || among g fs) ≡ true) × (covered g fs ≡ false))
        → (g : Filter) × (covers g f ≡ true) × ((same g f || among g (x ∷ fs)) ≡ true) × (covered g (x ∷ fs) ≡ false)
    go true e stay rise =
        let (g, d, m, n) = rise (covers_self_left x f e) in
        let a = covers_antisym x g in
        (g, covers_trans g x f d e, grind arith, grind (arith, same_tells))
    go false e stay rise =
        let (g, d, m, n) = stay c in
        let t = covers_trans x g f in
        (g, d, grind arith, grind arith)

-- each filter of the list that covers itself is covered by a maximal one
pub maximal_above : (f : Filter) (fs : List Filter) → among f fs ≡ true → covers f f ≡ true → (g : Filter) × (among g (maximal fs) ≡ true) × (covers g f ≡ true)
maximal_above f fs m c =
    let (g, d, k, n) = climb f fs c in
    let a = among_maximal g fs in
    (g, grind (arith, same_tells), d)

pub maximal_covers : (f : Filter) (fs : List Filter) → among f fs ≡ true → covers f f ≡ true → any_covers (maximal fs) f ≡ true
maximal_covers f fs m c =
    let (g, k, d) = maximal_above f fs m c in
    any_covers_among g f (maximal fs) k d

-- the maximal filters cover what the list covers
pub maximal_any_covers : (fs : List Filter) (f : Filter) → any_covers (maximal fs) f ≡ any_covers fs f
maximal_any_covers fs f =
    let there = any_covers_part (maximal fs) fs f (λ x m. maximal_member x fs m) in
    let home = back in
    grind arith
  where
    back : any_covers fs f ≡ true → any_covers (maximal fs) f ≡ true
    back h =
        let (g, m, c) = any_covers_find f fs h in
        any_covers_trans (maximal fs) g f (maximal_covers g fs m (covers_self_left g f c)) c

-- and match what it matches
pub maximal_matches : (fs : List Filter) (e : Notice) → any_matches (maximal fs) e ≡ any_matches fs e
maximal_matches fs e =
    let there = any_matches_part (maximal fs) fs e (λ x m. maximal_member x fs m) in
    let home = back in
    grind arith
  where
    back : any_matches fs e ≡ true → any_matches (maximal fs) e ≡ true
    back h =
        let (f, m, c) = any_matches_find e fs h in
        let (g, k, d) = maximal_above f fs m (matches_self f e c) in
        any_matches_among g e (maximal fs) k (covers_matches g f e d c)

-- a list between the maximal filters of another and that other has the same maximal filters
pub thin : (fs gs : List Filter) → ((f : Filter) → among f fs ≡ true → among f gs ≡ true) → ((f : Filter) → among f (maximal gs) ≡ true → among f fs ≡ true) → maximal fs ≡ maximal gs
thin fs gs part tops = sorted_ext (maximal fs) (maximal gs) (sorted_maximal fs) (sorted_maximal gs) each
  where
    less : (f : Filter) → among f fs ≡ true → covered f gs ≡ true → covered f fs ≡ true
    less f m h =
        let (g, k, c, n) = covered_find f gs h in
        let (t, j, d) = maximal_above g gs k (covers_self_left g f c) in
        let a = covers_antisym g t in
        let b = covers_antisym g f in
        covered_among t f fs (tops t j) (covers_trans t g f d c) (grind (arith, same_tells))

    each : (f : Filter) → among f (maximal fs) ≡ among f (maximal gs)
    each f =
        let a = among_maximal f fs in
        let b = among_maximal f gs in
        let p = part f in
        let t = tops f in
        let l = less f in
        let m = covered_part f fs gs part in
        grind arith

-- lists with the same members have the same maximal filters
pub maximal_same_members : (fs gs : List Filter) → ((f : Filter) → among f fs ≡ among f gs) → maximal fs ≡ maximal gs
maximal_same_members fs gs e = thin fs gs (λ f m. sym (e f) ∙ m) (λ f m. e f ∙ maximal_member f gs m)

pub maximal_none : maximal [] ≡ []
unfolding maximal ordered uncovered
maximal_none = refl

pub maximal_swap : (fs gs : List Filter) → maximal (fs ++ gs) ≡ maximal (gs ++ fs)
maximal_swap fs gs = maximal_same_members (fs ++ gs) (gs ++ fs) (λ x. let a = among_append x fs gs in let b = among_append x gs fs in grind arith)

-- the maximal filters of a part may stand for the part
pub maximal_part : (fs gs hs : List Filter) → maximal (fs ++ (maximal gs ++ hs)) ≡ maximal (fs ++ (gs ++ hs))
maximal_part fs gs hs = thin (fs ++ (maximal gs ++ hs)) (fs ++ (gs ++ hs)) part tops
  where
    part : (f : Filter) → among f (fs ++ (maximal gs ++ hs)) ≡ true → among f (fs ++ (gs ++ hs)) ≡ true
    part f m =
        let a = among_append f fs (maximal gs ++ hs) in
        let b = among_append f (maximal gs) hs in
        let c = among_append f fs (gs ++ hs) in
        let d = among_append f gs hs in
        let e = maximal_member f gs in
        grind arith

    tops : (f : Filter) → among f (maximal (fs ++ (gs ++ hs))) ≡ true → among f (fs ++ (maximal gs ++ hs)) ≡ true
    tops f m =
        let a = among_append f fs (maximal gs ++ hs) in
        let b = among_append f (maximal gs) hs in
        let c = among_append f fs (gs ++ hs) in
        let d = among_append f gs hs in
        let e = among_maximal f (fs ++ (gs ++ hs)) in
        let g = among_maximal f gs in
        let i = covered_append f fs (gs ++ hs) in
        let j = covered_append f gs hs in
        grind arith

pub maximal_maximal : (fs : List Filter) → maximal (maximal fs) ≡ maximal fs
maximal_maximal fs = thin (maximal fs) fs (λ f m. maximal_member f fs m) (λ f m. m)

pub among_outside : (f g : Filter) (gs : List Filter) → among f (outside g gs) ≡ (among f gs && not (covers g f))
unfolding among outside
among_outside f g [] = refl
among_outside f g (x ∷ gs) =
    let r = among_outside f g gs in
    grind (arith, same_tells)

pub sorted_outside : (f : Filter) (gs : List Filter) → sorted gs ≡ true → sorted (outside f gs) ≡ true
unfolding sorted outside
sorted_outside f [] h = refl
sorted_outside f (g ∷ gs) h =
    let r = sorted_outside f gs in
    let q = before_all_part g gs (outside f gs) (λ x m. let e = among_outside x f gs in grind arith) in
    grind arith

pub sorted_insert : (f : Filter) (gs : List Filter) → sorted gs ≡ true → sorted (insert f gs) ≡ true
unfolding insert
sorted_insert f gs h =
    let r = sorted_put f (outside f gs) (sorted_outside f gs h) in
    grind arith

pub among_insert : (f g : Filter) (gs : List Filter) → among f (insert g gs) ≡ cond (any_covers gs g) (among f gs) (same f g || (among f gs && not (covers g f)))
unfolding insert
among_insert f g gs =
    let r = among_put f g (outside g gs) in
    let s = among_outside f g gs in
    grind arith

-- what a list covers covers itself
pub any_covers_self : (fs : List Filter) (f : Filter) → any_covers fs f ≡ true → covers f f ≡ true
any_covers_self fs f h =
    let (g, m, d) = any_covers_find f fs h in
    covers_self_right g f d

-- what f covers, and f itself unless it stands there, is covered by another where f is covered
pub covered_under : (f x : Filter) (fs : List Filter) → any_covers fs f ≡ true → covers f x ≡ true → (among x fs ≡ false) ⊎ (same f x ≡ false) → covered x fs ≡ true
covered_under f x fs h c w =
    let (g, m, d) = any_covers_find f fs h in
    let a = covers_antisym f x c in
    covered_among g x fs m (covers_trans g f x d c) (grind (arith, same_tells))

-- the maximal filters of one more are those of the rest with it inserted
pub maximal_insert : (f : Filter) (fs : List Filter) → maximal (f ∷ fs) ≡ insert f (maximal fs)
unfolding among covered
maximal_insert f fs = sorted_ext (maximal (f ∷ fs)) (insert f (maximal fs)) (sorted_maximal (f ∷ fs)) (sorted_insert f (maximal fs) (sorted_maximal fs)) each
  where
    each : (x : Filter) → among x (maximal (f ∷ fs)) ≡ among x (insert f (maximal fs))
    each x =
        let a = among_maximal x (f ∷ fs) in
        let b = among_insert x f (maximal fs) in
        let c = among_maximal x fs in
        let d = maximal_any_covers fs f in
        let s = any_covers_self fs f in
        let u = covered_under f x fs in
        let v = covered_any_covers x fs in
        grind (arith, same_tells)

pub maximal_push : (fs : List Filter) (f : Filter) → maximal (fs ++ f ∷ []) ≡ insert f (maximal fs)
unfolding among
maximal_push fs f =
    maximal_same_members (fs ++ f ∷ []) (f ∷ fs) (λ x. let a = among_append x fs (f ∷ []) in grind arith) ∙ maximal_insert f fs
