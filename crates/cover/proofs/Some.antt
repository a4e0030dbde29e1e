-- That some filter of a list passes a test: by members, and through the operations on tables. What covers, what matches and what is covered by another are such tests.
use Rattle.std.proofs.Common.{◌≡◌, Bool, true, false, ◌&&◌, ◌||◌, List, [], ◌∷◌, ◌++◌, sym, refl, ◌∙◌, arith}
use Rattle.filter.specs.Filter.{Filter}
use Rattle.filter.proofs.Laws.{same_tells, same_refl}
use Rattle.cover.specs.Maximal.{among, put, without}

unfoldable pub some : (Filter → Bool) → List Filter → Bool
some p [] = false
some p (f ∷ fs) = p f || some p fs

pub some_among : (p : Filter → Bool) (f : Filter) (fs : List Filter) → among f fs ≡ true → p f ≡ true → some p fs ≡ true
unfolding among some
some_among p f [] m h = grind arith
some_among p f (g ∷ fs) m h =
    let r = some_among p f fs in
    grind (arith, same_tells)

pub some_find : (p : Filter → Bool) (fs : List Filter) → some p fs ≡ true → (f : Filter) × (among f fs ≡ true) × (p f ≡ true)
unfolding among some
some_find p [] h = absurd (grind arith)
some_find p (g ∷ fs) h = go (p g) refl (some_find p fs)
  where
    go : (b : Bool) → p g ≡ b → (some p fs ≡ true → (f : Filter) × (among f fs ≡ true) × (p f ≡ true)) → (f : Filter) × (among f (g ∷ fs) ≡ true) × (p f ≡ true)
    go true e rest =
        let s = same_refl g in
        (g, grind arith, e)
    go false e rest =
        let k : some p fs ≡ true = grind arith in
        let (f, m, c) = rest k in
        (f, grind arith, c)

pub some_append : (p : Filter → Bool) (fs gs : List Filter) → some p (fs ++ gs) ≡ (some p fs || some p gs)
unfolding some
some_append p [] gs = refl
some_append p (f ∷ fs) gs =
    let r = some_append p fs gs in
    grind arith

pub some_put : (p : Filter → Bool) (f : Filter) (fs : List Filter) → some p (put f fs) ≡ (p f || some p fs)
unfolding some put
some_put p f [] = refl
some_put p f (g ∷ fs) =
    let r = some_put p f fs in
    grind (arith, same_tells)

pub some_without : (p : Filter → Bool) (f : Filter) (fs : List Filter) → some p fs ≡ (some p (without f fs) || (among f fs && p f))
unfolding some without among
some_without p f [] = refl
some_without p f (g ∷ fs) =
    let r = some_without p f fs in
    grind (arith, same_tells)

-- a list that has all members of another passes where that passes, and lists with the same members pass alike
pub some_part : (p : Filter → Bool) (fs gs : List Filter) → ((f : Filter) → among f fs ≡ true → among f gs ≡ true) → some p fs ≡ true → some p gs ≡ true
some_part p fs gs part h =
    let (f, m, c) = some_find p fs h in
    some_among p f gs (part f m) c

pub some_same : (p : Filter → Bool) (fs gs : List Filter) → ((f : Filter) → among f fs ≡ among f gs) → some p fs ≡ some p gs
some_same p fs gs e =
    let there = some_part p fs gs (λ f m. sym (e f) ∙ m) in
    let back = some_part p gs fs (λ f m. e f ∙ m) in
    grind arith
