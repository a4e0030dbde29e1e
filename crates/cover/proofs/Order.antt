-- The operations on tables keep the order, and a sorted list is known by its members.
use Rattle.std.proofs.Common.{◌≡◌, suc, ◌≤◌, true, false, ◌&&◌, List, [], ◌∷◌, length, refl, arith}
use Rattle.filter.specs.Filter.{Filter, same, before}
use Rattle.filter.proofs.Laws.{same_tells, same_refl, before_trans, before_total, before_asym}
use Rattle.cover.specs.Maximal.{among, put, without, ordered, uncovered, maximal, minus}
use Rattle.cover.specs.Sorted.{before_all, sorted}
use Rattle.cover.proofs.Members.{among_put, among_without, among_ordered, among_uncovered, among_minus, before_all_among, before_all_fresh}

pub before_all_from : (f : Filter) (gs : List Filter) → ((g : Filter) → among g gs ≡ true → before f g ≡ true) → before_all f gs ≡ true
unfolding among before_all
before_all_from f [] h = refl
before_all_from f (g ∷ gs) h =
    let here = h g in
    let s = same_refl g in
    let rest : (x : Filter) → among x gs ≡ true → before f x ≡ true = λ x m. let p = h x in grind arith in
    let r = before_all_from f gs rest in
    grind arith

-- what comes before f comes before all that f comes before
pub before_all_trans : (f g : Filter) (gs : List Filter) → before f g ≡ true → before_all g gs ≡ true → before_all f gs ≡ true
before_all_trans f g gs p h = before_all_from f gs (λ x m. before_trans f g x p (before_all_among g x gs h m))

pub before_all_put : (f g : Filter) (gs : List Filter) → before_all f (put g gs) ≡ (before f g && before_all f gs)
unfolding before_all put
before_all_put f g [] = refl
before_all_put f g (x ∷ gs) =
    let r = before_all_put f g gs in
    grind (arith, same_tells)

pub sorted_put : (f : Filter) (gs : List Filter) → sorted gs ≡ true → sorted (put f gs) ≡ true
unfolding sorted before_all put
sorted_put f [] h = refl
sorted_put f (g ∷ gs) h =
    let r = sorted_put f gs in
    let q = before_all_put g f gs in
    let t = before_total f g in
    let n = before_all_trans f g gs in
    grind arith

-- a list whose members are among those that f comes before
pub before_all_part : (f : Filter) (gs hs : List Filter) → ((g : Filter) → among g hs ≡ true → among g gs ≡ true) → before_all f gs ≡ true → before_all f hs ≡ true
before_all_part f gs hs part h = before_all_from f hs (λ x m. before_all_among f x gs h (part x m))

pub sorted_without : (f : Filter) (gs : List Filter) → sorted gs ≡ true → sorted (without f gs) ≡ true
unfolding sorted without
sorted_without f [] h = refl
sorted_without f (g ∷ gs) h =
    let r = sorted_without f gs in
    let s : sorted gs ≡ true = grind arith in
    let q = before_all_part g gs (without f gs) (λ x m. let e = among_without x f gs s in grind arith) in
    grind arith

pub sorted_ordered : (gs : List Filter) → sorted (ordered gs) ≡ true
unfolding sorted ordered
sorted_ordered [] = refl
sorted_ordered (g ∷ gs) = sorted_put g (ordered gs) (sorted_ordered gs)

pub sorted_uncovered : (all gs : List Filter) → sorted gs ≡ true → sorted (uncovered all gs) ≡ true
unfolding sorted uncovered
sorted_uncovered all [] h = refl
sorted_uncovered all (g ∷ gs) h =
    let r = sorted_uncovered all gs in
    let q = before_all_part g gs (uncovered all gs) (λ x m. let e = among_uncovered x all gs in grind arith) in
    grind arith

pub sorted_minus : (gs hs : List Filter) → sorted gs ≡ true → sorted (minus gs hs) ≡ true
unfolding sorted minus
sorted_minus [] hs h = refl
sorted_minus (g ∷ gs) hs h =
    let r = sorted_minus gs hs in
    let q = before_all_part g gs (minus gs hs) (λ x m. let e = among_minus x gs hs in grind arith) in
    grind arith

pub sorted_maximal : (fs : List Filter) → sorted (maximal fs) ≡ true
unfolding maximal
sorted_maximal fs = sorted_uncovered fs (ordered fs) (sorted_ordered fs)

pub no_members : (fs : List Filter) → ((f : Filter) → among f fs ≡ false) → fs ≡ []
unfolding among
no_members [] e = refl
no_members (f ∷ fs) e =
    let r = e f in
    let s = same_refl f in
    absurd (grind arith)

-- two sorted lists with the same members are equal
pub sorted_ext : (fs gs : List Filter) → sorted fs ≡ true → sorted gs ≡ true → ((f : Filter) → among f fs ≡ among f gs) → fs ≡ gs
unfolding sorted among
sorted_ext [] [] p q e = refl
sorted_ext [] (g ∷ gs) p q e =
    let h = e g in
    let s = same_refl g in
    absurd (grind arith)
sorted_ext (f ∷ fs) [] p q e =
    let h = e f in
    let s = same_refl f in
    absurd (grind arith)
sorted_ext (f ∷ fs) (g ∷ gs) p q e =
    let a = e f in
    let b = e g in
    let sf = same_refl f in
    let sg = same_refl g in
    let mf = before_all_among g f gs in
    let mg = before_all_among f g fs in
    let t = before_asym f g in
    let heads : f ≡ g = grind (arith, same_tells) in
    let rest : (x : Filter) → among x fs ≡ among x gs = λ x. let c = e x in let u = before_all_fresh f fs in let v = before_all_fresh g gs in grind (arith, same_tells) in
    let pf : sorted fs ≡ true = grind arith in
    let pg : sorted gs ≡ true = grind arith in
    let tails = sorted_ext fs gs pf pg rest in
    cc

-- what is there already need not be put in, and what is not there need not be taken out
pub put_among : (f : Filter) (gs : List Filter) → sorted gs ≡ true → among f gs ≡ true → put f gs ≡ gs
put_among f gs h m = sorted_ext (put f gs) gs (sorted_put f gs h) h (λ x. let r = among_put x f gs in grind (arith, same_tells))

pub without_fresh : (f : Filter) (gs : List Filter) → among f gs ≡ false → without f gs ≡ gs
unfolding among without
without_fresh f [] m = refl
without_fresh f (g ∷ gs) m =
    let r = without_fresh f gs in
    grind (arith, same_tells)

pub ordered_sorted : (gs : List Filter) → sorted gs ≡ true → ordered gs ≡ gs
ordered_sorted gs h = sorted_ext (ordered gs) gs (sorted_ordered gs) h (λ x. among_ordered x gs)

-- taken out of any list, whatever its order: other members stay, and the list is one shorter
pub among_without_other : (f g : Filter) (gs : List Filter) → same f g ≡ false → among f (without g gs) ≡ among f gs
unfolding among without
among_without_other f g [] n = refl
among_without_other f g (x ∷ gs) n =
    let r = among_without_other f g gs in
    grind (arith, same_tells)

pub among_without_part : (f g : Filter) (gs : List Filter) → among f (without g gs) ≡ true → among f gs ≡ true
unfolding among without
among_without_part f g [] m = m
among_without_part f g (x ∷ gs) m =
    let r = among_without_part f g gs in
    grind (arith, same_tells)

pub length_without : (f : Filter) (gs : List Filter) → among f gs ≡ true → suc (length (without f gs)) ≡ length gs
unfolding among without
length_without f [] m = grind arith
length_without f (g ∷ gs) m =
    let r = length_without f gs in
    grind (arith, same_tells)

-- a sorted list is no longer than any list that has its members
pub sorted_length : (fs gs : List Filter) → sorted fs ≡ true → ((f : Filter) → among f fs ≡ true → among f gs ≡ true) → length fs ≤ length gs
unfolding sorted among
sorted_length [] gs h part = omega arith
sorted_length (f ∷ fs) gs h part =
    let here = part f in
    let s = same_refl f in
    let m : among f gs ≡ true = grind arith in
    let rest : (x : Filter) → among x fs ≡ true → among x (without f gs) ≡ true = λ x n. let p = part x in let o = among_without_other x f gs in let u = before_all_fresh f fs in grind (arith, same_tells) in
    let hs : sorted fs ≡ true = grind arith in
    let r = sorted_length fs (without f gs) hs rest in
    let l = length_without f gs m in
    omega arith
