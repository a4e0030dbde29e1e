-- What changes between two tables: one filter more or less changes little, and the differences, sent one at a time, lead from the one to the other.
use Rattle.std.proofs.Common.{◌≡◌, ◌≤◌, Bool, true, false, not, ◌&&◌, ◌||◌, ◌⊎◌, List, [], ◌∷◌, ◌++◌, length, refl, ap, inl, inr, ⊎_elim, arith}
use Rattle.filter.specs.Filter.{Filter, Notice, same}
use Rattle.filter.proofs.Laws.{same_tells, same_refl, before_irrefl}
use Rattle.cover.specs.Maximal.{among, put, without, maximal, any_matches, any_covers, minus}
use Rattle.cover.specs.Sorted.{before_all, sorted}
use Rattle.cover.specs.Replay.{puts, takes, Between}
use Rattle.cover.proofs.Members.{among_append, among_put, among_without, among_maximal, among_minus}
use Rattle.cover.proofs.Order.{sorted_put, sorted_without, sorted_maximal, sorted_minus, sorted_ext, sorted_length, no_members, without_fresh, among_without_other}
use Rattle.cover.proofs.Covering.{any_covers_part, any_matches_part, covered_part}

-- a sorted list of nothing but f
pub sorted_only : (f : Filter) (gs : List Filter) → sorted gs ≡ true → ((g : Filter) → among g gs ≡ true → g ≡ f) → (gs ≡ []) ⊎ (gs ≡ f ∷ [])
unfolding among sorted before_all
sorted_only f [] h only = inl refl
sorted_only f (g ∷ []) h only =
    let a = only g in
    let s = same_refl g in
    inr (grind arith)
sorted_only f (g ∷ x ∷ gs) h only =
    let a = only g in
    let b = only x in
    let s = same_refl g in
    let t = same_refl x in
    let i = before_irrefl f in
    absurd (grind arith)

-- gs is fs with f: what is maximal in gs and not in fs is f
pub new_maximal : (f : Filter) (fs gs : List Filter) → ((x : Filter) → among x gs ≡ (same x f || among x fs)) → (x : Filter) → among x (minus (maximal gs) (maximal fs)) ≡ true → x ≡ f
new_maximal f fs gs e x m =
    let a = among_minus x (maximal gs) (maximal fs) in
    let b = among_maximal x gs in
    let c = among_maximal x fs in
    let d = e x in
    let part : (y : Filter) → among y fs ≡ true → among y gs ≡ true = λ y k. let r = e y in grind arith in
    let k = covered_part x fs gs part in
    grind (arith, same_tells)

pub one_with : (f : Filter) (fs gs : List Filter) → ((x : Filter) → among x gs ≡ (same x f || among x fs)) → (minus (maximal gs) (maximal fs) ≡ []) ⊎ (minus (maximal gs) (maximal fs) ≡ f ∷ [])
one_with f fs gs e = sorted_only f (minus (maximal gs) (maximal fs)) (sorted_minus (maximal gs) (maximal fs) (sorted_maximal gs)) (new_maximal f fs gs e)

-- one filter more makes at most that one new
pub one_more : (f : Filter) (fs : List Filter) → (minus (maximal (f ∷ fs)) (maximal fs) ≡ []) ⊎ (minus (maximal (f ∷ fs)) (maximal fs) ≡ f ∷ [])
unfolding among
one_more f fs = one_with f fs (f ∷ fs) (λ x. refl)

-- nothing is new where all is there
pub minus_part : (fs gs : List Filter) → ((x : Filter) → among x fs ≡ true → among x gs ≡ true) → minus fs gs ≡ []
minus_part fs gs part = no_members (minus fs gs) (λ x. let r = among_minus x fs gs in let p = part x in grind arith)

-- one filter less takes at most that one away
pub one_less : (f : Filter) (fs : List Filter) → (minus (maximal fs) (maximal (without f fs)) ≡ []) ⊎ (minus (maximal fs) (maximal (without f fs)) ≡ f ∷ [])
one_less f fs = go (among f fs) refl
  where
    go : (b : Bool) → among f fs ≡ b → (minus (maximal fs) (maximal (without f fs)) ≡ []) ⊎ (minus (maximal fs) (maximal (without f fs)) ≡ f ∷ [])
    go true m = one_with f (without f fs) fs (λ x. let r = among_without_other x f fs in grind (arith, same_tells))
    go false m = inl (rw (without_fresh f fs m) (minus_part (maximal fs) (maximal fs) (λ x k. k)))

pub among_puts : (f : Filter) (gs hs : List Filter) → among f (puts gs hs) ≡ (among f gs || among f hs)
unfolding among puts
among_puts f [] hs = refl
among_puts f (g ∷ gs) hs =
    let r = among_puts f gs (put g hs) in
    let q = among_put f g hs in
    grind arith

pub sorted_puts : (gs hs : List Filter) → sorted hs ≡ true → sorted (puts gs hs) ≡ true
unfolding puts
sorted_puts [] hs h = h
sorted_puts (g ∷ gs) hs h = sorted_puts gs (put g hs) (sorted_put g hs h)

pub among_takes : (f : Filter) (gs hs : List Filter) → sorted hs ≡ true → among f (takes gs hs) ≡ (among f hs && not (among f gs))
unfolding among takes
among_takes f [] hs h = grind arith
among_takes f (g ∷ gs) hs h =
    let r = among_takes f gs (without g hs) (sorted_without g hs h) in
    let q = among_without f g hs h in
    grind arith

pub sorted_takes : (gs hs : List Filter) → sorted hs ≡ true → sorted (takes gs hs) ≡ true
unfolding takes
sorted_takes [] hs h = h
sorted_takes (g ∷ gs) hs h = sorted_takes gs (without g hs) (sorted_without g hs h)

pub puts_append : (fs gs hs : List Filter) → puts (fs ++ gs) hs ≡ puts gs (puts fs hs)
unfolding puts
puts_append [] gs hs = refl
puts_append (f ∷ fs) gs hs = puts_append fs gs (put f hs)

pub takes_append : (fs gs hs : List Filter) → takes (fs ++ gs) hs ≡ takes gs (takes fs hs)
unfolding takes
takes_append [] gs hs = refl
takes_append (f ∷ fs) gs hs = takes_append fs gs (without f hs)

-- what is new put in and what is no more taken out: from the old table to the new
pub replay : (old new : List Filter) → sorted old ≡ true → sorted new ≡ true → takes (minus old new) (puts (minus new old) old) ≡ new
replay old new p q =
    let s = sorted_puts (minus new old) old p in
    sorted_ext (takes (minus old new) (puts (minus new old) old)) new (sorted_takes (minus old new) (puts (minus new old) old) s) q (each s)
  where
    each : sorted (puts (minus new old) old) ≡ true → (x : Filter) → among x (takes (minus old new) (puts (minus new old) old)) ≡ among x new
    each s x =
        let a = among_takes x (minus old new) (puts (minus new old) old) s in
        let b = among_puts x (minus new old) old in
        let c = among_minus x old new in
        let d = among_minus x new old in
        grind arith

-- after each filter that is put in
pub replay_puts : (old new done rest : List Filter) → sorted old ≡ true → minus new old ≡ done ++ rest → Between old new (puts done old)
replay_puts old new done rest p e =
    record {
      in_order = sorted_puts done old p;
      within = λ f m.
          let a = among_puts f done old in
          let b = among_minus f new old in
          let c = among_append f done rest in
          let d = ap (among f) e in
          grind arith;
      whole = inl (λ f m. let a = among_puts f done old in grind arith);
    }

-- and after each that is taken out
pub replay_takes : (old new done rest : List Filter) → sorted old ≡ true → minus old new ≡ done ++ rest → Between old new (takes done (puts (minus new old) old))
replay_takes old new done rest p e =
    let s = sorted_puts (minus new old) old p in
    record {
      in_order = sorted_takes done (puts (minus new old) old) s;
      within = λ f m.
          let a = among_takes f done (puts (minus new old) old) s in
          let b = among_puts f (minus new old) old in
          let c = among_minus f new old in
          grind arith;
      whole = inr (λ f m.
          let a = among_takes f done (puts (minus new old) old) s in
          let b = among_puts f (minus new old) old in
          let c = among_minus f new old in
          let d = among_minus f old new in
          let g = among_append f done rest in
          let h = ap (among f) e in
          grind arith);
    }

-- a table on the way covers and matches what both do
pub between_covers : (old new gs : List Filter) (f : Filter) → Between old new gs → any_covers old f ≡ true → any_covers new f ≡ true → any_covers gs f ≡ true
between_covers old new gs f b p q = ⊎_elim (λ w. any_covers_part old gs f w p) (λ w. any_covers_part new gs f w q) b.whole

pub between_matches : (old new gs : List Filter) (e : Notice) → Between old new gs → any_matches old e ≡ true → any_matches new e ≡ true → any_matches gs e ≡ true
between_matches old new gs e b p q = ⊎_elim (λ w. any_matches_part old gs e w p) (λ w. any_matches_part new gs e w q) b.whole

-- and is no longer than any list that has the members of both
pub between_length : (old new gs all : List Filter) → Between old new gs → ((f : Filter) → (among f old || among f new) ≡ true → among f all ≡ true) → length gs ≤ length all
between_length old new gs all b part = sorted_length gs all b.in_order (λ f m. part f (b.within f m))
