-- Nothing is under way just if nothing is on any channel between a broker and the one that it hangs on.
use Rattle.std.proofs.Common.{◌≡◌, ℕ, zero, suc, ◌+◌, ◌<◌, Bool, true, false, ◌&&◌, eqb, ◌⊎◌, List, [], ◌∷◌, length, get_or, sym, refl, ap, ◌∙◌, inl, inr, arith}
use Rattle.std.proofs.lemmas.Bool.{cases_order, false_from_ne_true}
use Rattle.std.proofs.lemmas.Bool.Decides.{nat_tests}
use Rattle.model.specs.Tree.{edge}
use Rattle.model.specs.Model.{Network, Quiet}
use Rattle.model.specs.Promise.{is_quiet}
use Rattle.model.proofs.Decide.{tested}
use Rattle.layout.specs.Parts.{tree}
use Rattle.layout.specs.State.{network_of, Formed}
use Rattle.layout.specs.declared.opening.Opening.{Opening}
use Rattle.steps.proofs.Hanging.{edge_parts, hung_beside}
use Rattle.layout.proofs.Written.{tree_length, edge_brokers}

-- whether nothing is under way between a broker and the one that it hangs on
abbrev pub is_still : Opening → Network → ℕ → Bool
is_still o s b = eqb (length (s.channel b (get_or o.hung b 0))) 0 && eqb (length (s.channel (get_or o.hung b 0) b)) 0

-- nothing is, of the brokers below b
abbrev pub StillBelow : Opening → Network → ℕ → Type 0
StillBelow o s b = (x : ℕ) → 0 < x → x < b → is_still o s x ≡ true

pub still_more : (o : Opening) (s : Network) (b : ℕ) → StillBelow o s b → is_still o s b ≡ true → StillBelow o s (b + 1)
still_more o s b h here x p q = go (cases_order x b)
  where
    go : (x ≡ b) ⊎ ((x < b) ⊎ (b < x)) → is_still o s x ≡ true
    go (inl e) = rw e here
    go (inr (inl l)) = h x p l
    go (inr (inr l)) = absurd (omega arith)

empty_list : {A : Type 0} (xs : List A) → length xs ≡ 0 → xs ≡ []
empty_list [] e = refl
empty_list (x ∷ xs) e = absurd (omega arith)

module _ (o : Opening) (memory : List ℕ) (h : Formed o memory) where
  pub still_quiet : StillBelow o (network_of o memory) o.brokers → true ≡ is_quiet (tree o) (network_of o memory)
  unfolding Quiet
  still_quiet still = sym ((tested (tree o) (network_of o memory)).quiet.1 (λ a b ha hb. each a b (edge (tree o) a b) refl))
    where
      parts : (b : ℕ) → is_still o (network_of o memory) b ≡ true →
          (length ((network_of o memory).channel b (get_or o.hung b 0)) ≡ 0) × (length ((network_of o memory).channel (get_or o.hung b 0) b) ≡ 0)
      parts b h = (grind (arith, nat_tests), grind (arith, nat_tests))

      each : (a b : ℕ) (v : Bool) → edge (tree o) a b ≡ v → (network_of o memory).channel a b ≡ []
      each a b true e =
          let w = edge_brokers o a b e in
          elim (edge_parts o a b e) [
            | inl p ↦ (let s = (parts a (still a p.0 w.0)).0 in empty_list ((network_of o memory).channel a b) (ap (λ x. length ((network_of o memory).channel a x)) (sym p.1) ∙ s))
            | inr p ↦ (let s = (parts b (still b p.0 w.1)).1 in empty_list ((network_of o memory).channel a b) (ap (λ x. length ((network_of o memory).channel x b)) (sym p.1) ∙ s))
          ]
      each a b false e = (h.no_link a b e).2

  not_quiet : (a b : ℕ) → edge (tree o) a b ≡ true → 0 < length ((network_of o memory).channel a b) → false ≡ is_quiet (tree o) (network_of o memory)
  unfolding Quiet
  not_quiet a b e l =
      sym (false_from_ne_true (is_quiet (tree o) (network_of o memory)) (λ q.
      let w = edge_brokers o a b e in
      let t = tree_length o in
      let z = ap length ((tested (tree o) (network_of o memory)).quiet.0 q a b (omega arith) (omega arith)) in
      omega arith))

  -- of a broker there is something under way, or of none
  pub not_still : (b : ℕ) → 0 < b → b < o.brokers → is_still o (network_of o memory) b ≡ false → false ≡ is_quiet (tree o) (network_of o memory)
  not_still b p q h = go (length ((network_of o memory).channel b up)) refl
    where
      up : ℕ
      up = get_or o.hung b 0

      go : (n : ℕ) → length ((network_of o memory).channel b up) ≡ n → false ≡ is_quiet (tree o) (network_of o memory)
      go zero e =
          let l : 0 < length ((network_of o memory).channel up b) = grind (arith, nat_tests) in
          not_quiet up b (hung_beside o b p q).1 l
      go (suc n) e = not_quiet b up (hung_beside o b p q).0 (omega arith)
