-- What a list of filters covers and matches, by its members and through the operations on tables.
use Rattle.std.proofs.Common.{◌≡◌, true, false, not, ◌&&◌, ◌||◌, List, [], ◌∷◌, ◌++◌, sym, refl, ap, ◌∙◌, arith}
use Rattle.std.proofs.lemmas.Bool.Decides.{nat_tests}
use Rattle.filter.specs.Filter.{Filter, Notice, matches, covers, same}
use Rattle.filter.proofs.Laws.{covers_trans, covers_matches}
use Rattle.cover.specs.Maximal.{among, put, without, ordered, covered, any_matches, any_covers}
use Rattle.cover.proofs.Members.{among_ordered}
use Rattle.cover.proofs.Some.{some, some_among, some_find, some_append, some_put, some_without, some_part, some_same}

-- a filter that matches a notice covers itself
pub matches_self : (f : Filter) (e : Notice) → matches f e ≡ true → covers f f ≡ true
unfolding matches covers
matches_self [] e m = refl
matches_self (a ∷ []) e m = grind arith
matches_self (a ∷ b ∷ f) [] m = grind arith
matches_self (a ∷ b ∷ f) (x ∷ e) m =
    let r = matches_self f e in
    grind (arith, nat_tests)

-- each as a test that some filter of the list passes
pub any_covers_some : (gs : List Filter) (f : Filter) → any_covers gs f ≡ some (λ g. covers g f) gs
unfolding any_covers some
any_covers_some [] f = refl
any_covers_some (g ∷ gs) f = ap (λ b. covers g f || b) (any_covers_some gs f)

pub any_matches_some : (gs : List Filter) (e : Notice) → any_matches gs e ≡ some (λ g. matches g e) gs
unfolding any_matches some
any_matches_some [] e = refl
any_matches_some (g ∷ gs) e = ap (λ b. matches g e || b) (any_matches_some gs e)

pub covered_some : (f : Filter) (gs : List Filter) → covered f gs ≡ some (λ g. covers g f && not (same g f)) gs
unfolding covered some
covered_some f [] = refl
covered_some f (g ∷ gs) = ap (λ b. (covers g f && not (same g f)) || b) (covered_some f gs)

-- a member that covers f, and back
pub any_covers_among : (g f : Filter) (gs : List Filter) → among g gs ≡ true → covers g f ≡ true → any_covers gs f ≡ true
any_covers_among g f gs m c = simp any_covers_some (some_among (λ x. covers x f) g gs m c)

pub any_covers_find : (f : Filter) (gs : List Filter) → any_covers gs f ≡ true → (g : Filter) × (among g gs ≡ true) × (covers g f ≡ true)
any_covers_find f gs h = some_find (λ x. covers x f) gs (sym (any_covers_some gs f) ∙ h)

pub any_matches_among : (g : Filter) (e : Notice) (gs : List Filter) → among g gs ≡ true → matches g e ≡ true → any_matches gs e ≡ true
any_matches_among g e gs m c = simp any_matches_some (some_among (λ x. matches x e) g gs m c)

pub any_matches_find : (e : Notice) (gs : List Filter) → any_matches gs e ≡ true → (g : Filter) × (among g gs ≡ true) × (matches g e ≡ true)
any_matches_find e gs h = some_find (λ x. matches x e) gs (sym (any_matches_some gs e) ∙ h)

pub covered_among : (g f : Filter) (gs : List Filter) → among g gs ≡ true → covers g f ≡ true → same g f ≡ false → covered f gs ≡ true
covered_among g f gs m c n = simp covered_some (some_among (λ x. covers x f && not (same x f)) g gs m (grind arith))

pub covered_find : (f : Filter) (gs : List Filter) → covered f gs ≡ true → (g : Filter) × (among g gs ≡ true) × (covers g f ≡ true) × (same g f ≡ false)
covered_find f gs h =
    let (g, m, c) = some_find (λ x. covers x f && not (same x f)) gs (sym (covered_some f gs) ∙ h) in
    (g, m, grind arith, grind arith)

pub any_covers_append : (gs hs : List Filter) (f : Filter) → any_covers (gs ++ hs) f ≡ (any_covers gs f || any_covers hs f)
any_covers_append gs hs f = simp any_covers_some (some_append (λ x. covers x f) gs hs)

pub any_matches_append : (gs hs : List Filter) (e : Notice) → any_matches (gs ++ hs) e ≡ (any_matches gs e || any_matches hs e)
any_matches_append gs hs e = simp any_matches_some (some_append (λ x. matches x e) gs hs)

pub covered_append : (f : Filter) (gs hs : List Filter) → covered f (gs ++ hs) ≡ (covered f gs || covered f hs)
covered_append f gs hs = simp covered_some (some_append (λ x. covers x f && not (same x f)) gs hs)

pub any_covers_put : (g : Filter) (gs : List Filter) (f : Filter) → any_covers (put g gs) f ≡ (covers g f || any_covers gs f)
any_covers_put g gs f = simp any_covers_some (some_put (λ x. covers x f) g gs)

pub any_matches_put : (g : Filter) (gs : List Filter) (e : Notice) → any_matches (put g gs) e ≡ (matches g e || any_matches gs e)
any_matches_put g gs e = simp any_matches_some (some_put (λ x. matches x e) g gs)

pub any_covers_without : (g : Filter) (gs : List Filter) (f : Filter) → any_covers gs f ≡ (any_covers (without g gs) f || (among g gs && covers g f))
any_covers_without g gs f = simp any_covers_some (some_without (λ x. covers x f) g gs)

pub any_matches_without : (g : Filter) (gs : List Filter) (e : Notice) → any_matches gs e ≡ (any_matches (without g gs) e || (among g gs && matches g e))
any_matches_without g gs e = simp any_matches_some (some_without (λ x. matches x e) g gs)

-- by members alone
pub any_covers_part : (gs hs : List Filter) (f : Filter) → ((x : Filter) → among x gs ≡ true → among x hs ≡ true) → any_covers gs f ≡ true → any_covers hs f ≡ true
any_covers_part gs hs f part h = any_covers_some hs f ∙ some_part (λ x. covers x f) gs hs part (sym (any_covers_some gs f) ∙ h)

pub any_matches_part : (gs hs : List Filter) (e : Notice) → ((x : Filter) → among x gs ≡ true → among x hs ≡ true) → any_matches gs e ≡ true → any_matches hs e ≡ true
any_matches_part gs hs e part h = any_matches_some hs e ∙ some_part (λ x. matches x e) gs hs part (sym (any_matches_some gs e) ∙ h)

pub covered_part : (f : Filter) (gs hs : List Filter) → ((x : Filter) → among x gs ≡ true → among x hs ≡ true) → covered f gs ≡ true → covered f hs ≡ true
covered_part f gs hs part h = covered_some f hs ∙ some_part (λ x. covers x f && not (same x f)) gs hs part (sym (covered_some f gs) ∙ h)

pub any_covers_same : (gs hs : List Filter) (f : Filter) → ((x : Filter) → among x gs ≡ among x hs) → any_covers gs f ≡ any_covers hs f
any_covers_same gs hs f e = simp any_covers_some (some_same (λ x. covers x f) gs hs e)

pub any_matches_same : (gs hs : List Filter) (e : Notice) → ((x : Filter) → among x gs ≡ among x hs) → any_matches gs e ≡ any_matches hs e
any_matches_same gs hs e s = simp any_matches_some (some_same (λ x. matches x e) gs hs s)

pub covered_same : (f : Filter) (gs hs : List Filter) → ((x : Filter) → among x gs ≡ among x hs) → covered f gs ≡ covered f hs
covered_same f gs hs e = simp covered_some (some_same (λ x. covers x f && not (same x f)) gs hs e)

pub any_covers_ordered : (gs : List Filter) (f : Filter) → any_covers (ordered gs) f ≡ any_covers gs f
any_covers_ordered gs f = any_covers_same (ordered gs) gs f (λ x. among_ordered x gs)

pub any_matches_ordered : (gs : List Filter) (e : Notice) → any_matches (ordered gs) e ≡ any_matches gs e
any_matches_ordered gs e = any_matches_same (ordered gs) gs e (λ x. among_ordered x gs)

-- what covers f covers all that f covers, and matches all that f matches
pub any_covers_trans : (gs : List Filter) (f h : Filter) → any_covers gs f ≡ true → covers f h ≡ true → any_covers gs h ≡ true
any_covers_trans gs f h p c =
    let (g, m, d) = any_covers_find f gs p in
    any_covers_among g h gs m (covers_trans g f h d c)

pub any_covers_matches : (gs : List Filter) (f : Filter) (e : Notice) → any_covers gs f ≡ true → matches f e ≡ true → any_matches gs e ≡ true
any_covers_matches gs f e p c =
    let (g, m, d) = any_covers_find f gs p in
    any_matches_among g e gs m (covers_matches g f e d c)

-- what another filter of the list covers, the list covers
pub covered_any_covers : (f : Filter) (gs : List Filter) → covered f gs ≡ true → any_covers gs f ≡ true
covered_any_covers f gs h =
    let (g, m, c, n) = covered_find f gs h in
    any_covers_among g f gs m c
