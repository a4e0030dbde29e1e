-- A pass that chooses the neighbours that a notice goes on to.
use Rattle.std.proofs.Common.{◌≡◌, ℕ, ◌+◌, ◌<◌, true, false, cond, not, ◌&&◌, ◌||◌, eqb, refl, List, [], ◌∷◌, ◌++◌, map, length, get_or, set, add-one, arith}
use Rattle.std.proofs.lemmas.List.{append-nil, get_or-map}
use Rattle.std.proofs.lemmas.Bool.Decides.{nat_tests}
use Rattle.filter.specs.Filter.{Filter, Notice, matches}
use Rattle.cover.specs.Maximal.{any_matches}
use Rattle.broker.specs.Announcing.{learned_from, table_at}
use Rattle.broker.specs.Forwarding.{wanting}
use Rattle.broker.specs.declared.neighbour.Neighbour.{Neighbour}
use Rattle.broker.proofs.Fronts.{Front, front_push}

-- of the first i neighbours those that the notice goes on to
abbrev pub chosen : (m : ℕ) → List Neighbour → (from : ℕ) → Notice → ℕ → List ℕ
chosen m ns from e i = wanting (table_at m ns) (map (λ n. n.broker) ns) from e i

-- a pass over a table for a filter that matches, one filter on, and at its end
pub matches_next : (f : Filter) (rest left : List Filter) (e : Notice) → left ≡ f ∷ rest → any_matches left e ≡ (matches f e || any_matches rest e)
unfolding any_matches
matches_next f rest left e h = rw h refl

pub matches_none : (left : List Filter) (e : Notice) → left ≡ [] → any_matches left e ≡ false
unfolding any_matches
matches_none left e h = rw h refl

module _ (m : ℕ) (ns : List Neighbour) (from : ℕ) (e : Notice) (i : ℕ) (d : Neighbour) (l : i < length ns) where
  one_more : chosen m ns from e (i + 1) ≡ chosen m ns from e i ++ cond (not (eqb (get_or ns i d).broker from) && any_matches (learned_from m (get_or ns i d)) e) ((get_or ns i d).broker ∷ []) []
  unfolding wanting
  one_more = rw (add-one i, get_or-map (λ n. n.broker) ns i d 0 l, get_or-map (learned_from m) ns i d [] l)

  pub chosen_pick : ((get_or ns i d).broker ≡ from → ⊥) → true ≡ any_matches (learned_from m (get_or ns i d)) e →
      (was out : List ℕ) (to : ℕ) → Front (chosen m ns from e i) was out to → to < length was → Front (chosen m ns from e (i + 1)) was (set out to (get_or ns i d).broker) (to + 1)
  chosen_pick p q was out to h k =
      let o = one_more in
      let r : chosen m ns from e (i + 1) ≡ chosen m ns from e i ++ (get_or ns i d).broker ∷ [] = grind (arith, nat_tests) in
      rw r (front_push (chosen m ns from e i) was out to (get_or ns i d).broker h k)

  pub chosen_skip : false ≡ any_matches (learned_from m (get_or ns i d)) e → chosen m ns from e (i + 1) ≡ chosen m ns from e i
  chosen_skip q =
      let o = one_more in
      let a = append-nil (chosen m ns from e i) in
      grind (arith, nat_tests)

  pub chosen_back : (get_or ns i d).broker ≡ from → chosen m ns from e (i + 1) ≡ chosen m ns from e i
  chosen_back p =
      let o = one_more in
      let a = append-nil (chosen m ns from e i) in
      grind (arith, nat_tests)
