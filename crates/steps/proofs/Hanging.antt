-- Who hangs on whom in an opening's tree, by the row of the brokers hung on.
use Rattle.std.proofs.Common.{◌≡◌, ℕ, zero, suc, ◌<◌, Bool, true, false, ◌&&◌, ◌||◌, eqb, ltb, ◌⊎◌, get_or, sym, refl, ◌∙◌, inl, inr, arith}
use Rattle.std.proofs.lemmas.Bool.Decides.{nat_tests}
use Rattle.model.specs.Tree.{up, edge, has, neighbours, hangs_on}
use Rattle.model.proofs.Tree.{edge_up, edge_sym, neighbours_edge}
use Rattle.layout.specs.Parts.{tree}
use Rattle.layout.specs.declared.opening.Opening.{Opening}
use Rattle.layout.proofs.Channels.{links}
use Rattle.layout.proofs.Written.{tree_length, edge_brokers}

pub hung_up : (o : Opening) (b : ℕ) → 0 < b → b < o.brokers → up (tree o) b ≡ get_or o.hung b 0
hung_up o b p q = (links o.hung o.brokers o.valid.1.0 o.valid.4).hung_on b p q

-- broker a hangs on b
pub hangs_here : (o : Opening) (a b : ℕ) → a < o.brokers → hangs_on (tree o) a b ≡ (ltb 0 a && eqb (get_or o.hung a 0) b)
unfolding hangs_on
hangs_here o zero b p = grind (arith, nat_tests)
hangs_here o (suc a) b p =
    let u = hung_up o (suc a) (omega arith) p in
    let l = tree_length o in
    grind (arith, nat_tests)

module _ (o : Opening) (a b : ℕ) (p : a < o.brokers) (q : b < o.brokers) where
  hung_edge : edge (tree o) a b ≡ ((ltb 0 a && eqb (get_or o.hung a 0) b) || (ltb 0 b && eqb (get_or o.hung b 0) a))
  hung_edge =
      let x = hangs_here o a b p in
      let y = hangs_here o b a q in
      rw (edge_up (tree o) a b, x, y)

  -- the first hangs on the second
  pub edge_first : 0 < a → get_or o.hung a 0 ≡ b → true ≡ edge (tree o) a b
  edge_first l e =
      let h = hung_edge in
      grind (arith, nat_tests)

  -- brokers that hang together are beside each other, and only those
  pub edge_answer : (t : Bool) → t ≡ edge (tree o) a b → t ≡ has (neighbours (tree o) a) b
  edge_answer t e =
      let l = tree_length o in
      e ∙ sym (neighbours_edge (tree o) a b (omega arith))

-- of two that hang together the first hangs on the second, or the second on the first
pub edge_parts : (o : Opening) (a b : ℕ) → edge (tree o) a b ≡ true → ((0 < a) × (get_or o.hung a 0 ≡ b)) ⊎ ((0 < b) × (get_or o.hung b 0 ≡ a))
edge_parts o a b e =
    let w = edge_brokers o a b e in
    go (ltb 0 a && eqb (get_or o.hung a 0) b) refl (sym (hung_edge o a b w.0 w.1) ∙ e)
  where
    go : (v : Bool) → (ltb 0 a && eqb (get_or o.hung a 0) b) ≡ v → (v || (ltb 0 b && eqb (get_or o.hung b 0) a)) ≡ true →
        ((0 < a) × (get_or o.hung a 0 ≡ b)) ⊎ ((0 < b) × (get_or o.hung b 0 ≡ a))
    go true p q = inl (grind (arith, nat_tests), grind (arith, nat_tests))
    go false p q = inr (grind (arith, nat_tests), grind (arith, nat_tests))

-- a broker and the one that it hangs on, either way
pub hung_beside : (o : Opening) (b : ℕ) → 0 < b → b < o.brokers → (edge (tree o) b (get_or o.hung b 0) ≡ true) × (edge (tree o) (get_or o.hung b 0) b ≡ true)
hung_beside o b p q =
    let l = o.valid.4 b p q in
    let e = sym (edge_first o b (get_or o.hung b 0) q (omega arith) p refl) in
    (e, edge_sym (tree o) (get_or o.hung b 0) b ∙ e)
