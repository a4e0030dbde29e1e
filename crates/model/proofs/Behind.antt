-- How many brokers are behind another: more than are behind its other neighbours together, and fewer than there are.
use Rattle.std.proofs.Common.{◌≡◌, ℕ, zero, suc, ◌+◌, ◌*◌, ◌<◌, ◌≤◌, Bool, true, false, cond, not, ◌&&◌, eqb, ◌⊎◌, List, [], ◌∷◌, ◌++◌, length, sym, refl, ap, ◌∙◌, inl, inr, mul-zero, arith, length-append}
use Rattle.std.proofs.lemmas.Bool.Decides.{nat_tests}
use Rattle.std.proofs.lemmas.Bool.{eqb-false, eq-eqb, ne_eqb, or_left, or_right, cases_eq}
use Rattle.filter.specs.Filter.{Filter}
use Rattle.model.specs.Tree.{Tree, hangs, hop, has, edge, neighbours, distinct}
use Rattle.model.specs.Model.{from_others}
use Rattle.model.specs.Promise.{total, brokers_behind}
use Rattle.model.specs.Invariant.{one}
use Rattle.model.proofs.Tree.{hop_self, hop_one_way, edge_within, edge_irrefl, edge_apart, neighbours_edge, neighbours_distinct}
use Rattle.model.proofs.Sums.{total_le, total_plus, total_one, total_less}
use Rattle.model.proofs.Copies.{one_most}

-- g at these brokers but for b, together
unfoldable pub others : (ℕ → ℕ) → ℕ → List ℕ → ℕ
others g b [] = 0
others g b (m ∷ ms) = cond (eqb m b) 0 (g m) + others g b ms

pub length_from_others : (table : ℕ → List Filter) (b : ℕ) (ns : List ℕ) → length (from_others table b ns) ≡ others (λ m. length (table m)) b ns
unfolding from_others others
length_from_others table b [] = refl
length_from_others table b (m ∷ ns) = go (eqb m b) (length_from_others table b ns)
  where
    go :
        (v : Bool) → length (from_others table b ns) ≡ others (λ m. length (table m)) b ns →
        length (cond v (from_others table b ns) (table m ++ from_others table b ns)) ≡ cond v 0 (length (table m)) + others (λ m. length (table m)) b ns
    go true r = omega arith
    go false r =
        let a = length-append (table m) (from_others table b ns) in
        omega arith

pub others_le :
    (f g : ℕ → ℕ) (b : ℕ) (ns : List ℕ) → ((m : ℕ) → has ns m ≡ true → (m ≡ b → ⊥) → f m ≤ g m) → others f b ns ≤ others g b ns
unfolding others has
others_le f g b [] h = omega arith
others_le f g b (m ∷ ns) h = go (eqb m b) refl (others_le f g b ns (λ l i ne. h l (or_right (eqb m l) (has ns l) i) ne))
  where
    go : (v : Bool) → eqb m b ≡ v → others f b ns ≤ others g b ns → cond v 0 (f m) + others f b ns ≤ cond v 0 (g m) + others g b ns
    go true q r = omega arith
    go false q r =
        let i = h m (or_left (eqb m m) (has ns m) (eq-eqb m m refl)) (eqb-false m b q) in
        omega arith

others_plus : (f g : ℕ → ℕ) (b : ℕ) (ns : List ℕ) → others (λ m. f m + g m) b ns ≡ others f b ns + others g b ns
unfolding others
others_plus f g b [] = refl
others_plus f g b (m ∷ ns) =
    let r = others_plus f g b ns in
    go (eqb m b) r
  where
    go :
        (v : Bool) → others (λ m. f m + g m) b ns ≡ others f b ns + others g b ns →
        cond v 0 (f m + g m) + others (λ m. f m + g m) b ns ≡ (cond v 0 (f m) + others f b ns) + (cond v 0 (g m) + others g b ns)
    go true r = omega arith
    go false r = omega arith

others_zero : (b : ℕ) (ns : List ℕ) → others (λ m. 0) b ns ≡ 0
unfolding others
others_zero b [] = refl
others_zero b (m ∷ ns) = go (eqb m b) (others_zero b ns)
  where
    go : (v : Bool) → others (λ m. 0) b ns ≡ 0 → cond {A = ℕ} v 0 0 + others (λ m. 0) b ns ≡ 0
    go true r = omega arith
    go false r = omega arith

others_total : (f : ℕ → ℕ → ℕ) (b : ℕ) (ns : List ℕ) (k : ℕ) → others (λ m. total (λ c. f c m) k) b ns ≡ total (λ c. others (f c) b ns) k
unfolding total
others_total f b ns zero = others_zero b ns
others_total f b ns (suc k) = others_plus (λ m. total (λ c. f c m) k) (f k) b ns ∙ ap (λ x. x + others (f k) b ns) (others_total f b ns k)

pub others_times : (k : ℕ) (g : ℕ → ℕ) (b : ℕ) (ns : List ℕ) → others (λ m. k * g m) b ns ≡ k * others g b ns
unfolding others
others_times k g b [] = sym (mul-zero k)
others_times k g b (m ∷ ns) = go (eqb m b) (others_times k g b ns)
  where
    go : (v : Bool) → others (λ m. k * g m) b ns ≡ k * others g b ns → cond v 0 (k * g m) + others (λ m. k * g m) b ns ≡ k * (cond v 0 (g m) + others g b ns)
    go true r = omega arith
    go false r = omega arith

others_one : (x b : ℕ) (ns : List ℕ) → distinct ns ≡ true → others (λ m. one (eqb x m)) b ns ≤ one (not (eqb x b) && has ns x)
unfolding others has distinct
others_one x b [] d = omega arith
others_one x b (m ∷ ns) d =
    let r = others_one x b ns in
    let h : (m ≡ x) → has ns m ≡ has ns x = λ i. ap (has ns) i in
    grind (arith, nat_tests)

module _ (t : Tree) (hung : hangs t ≡ true) where
  -- seen from b: n, and those behind the other neighbours of n
  behind_each :
      (b n : ℕ) → edge t b n ≡ true → (c : ℕ) → c < suc (length t) →
      one (eqb c n) + others (λ m. one (eqb (hop t c n) m)) b (neighbours t n) ≤ one (eqb (hop t c b) n)
  behind_each b n e c l =
      let w = edge_within t b n hung e in
      let o = others_one (hop t c n) b (neighbours t n) (neighbours_distinct t n hung w.1) in
      let one_way = hop_one_way t c b n hung (omega arith) e in
      go (cases_eq c n) o one_way
    where
      go :
          (c ≡ n) ⊎ (c ≡ n → ⊥) → others (λ m. one (eqb (hop t c n) m)) b (neighbours t n) ≤ one (not (eqb (hop t c n) b) && has (neighbours t n) (hop t c n)) →
          eqb (hop t c b) n ≡ not (eqb (hop t c n) b) → one (eqb c n) + others (λ m. one (eqb (hop t c n) m)) b (neighbours t n) ≤ one (eqb (hop t c b) n)
      go (inr ne) o w =
          let z = ne_eqb c n ne in
          grind arith
      go (inl i) o w =
          let self : hop t c n ≡ n = ap (λ x. hop t x n) i ∙ hop_self t n in
          let none : has (neighbours t n) (hop t c n) ≡ false =
          ap (has (neighbours t n)) self ∙ (neighbours_edge t n n (edge_within t b n hung e).1 ∙ edge_irrefl t n hung) in
          let apart : eqb (hop t c n) b ≡ false =
          ne_eqb (hop t c n) b (λ j. edge_apart t hung b n e (sym j ∙ self)) in
          let y = one_most (eqb c n) in
          grind arith

  pub behind_more : (b n : ℕ) → edge t b n ≡ true → suc (others (brokers_behind t n) b (neighbours t n)) ≤ brokers_behind t b n
  unfolding brokers_behind
  behind_more b n e =
      let w = edge_within t b n hung e in
      let s = others_total (λ c m. one (eqb (hop t c n) m)) b (neighbours t n) (suc (length t)) in
      let p = total_plus (λ c. one (eqb c n)) (λ c. others (λ m. one (eqb (hop t c n) m)) b (neighbours t n)) (suc (length t)) in
      let l =
      total_le
      (λ c. one (eqb c n) + others (λ m. one (eqb (hop t c n) m)) b (neighbours t n))
      (λ c. one (eqb (hop t c b) n))
      (suc (length t))
      (behind_each b n e) in
      let o = total_one (λ c. one (eqb c n)) (suc (length t)) n (omega arith) in
      let i : one (eqb n n) ≡ 1 = ap one (eq-eqb n n refl) in
      omega arith

  -- b itself is not behind
  pub behind_fewer : (b n : ℕ) → edge t b n ≡ true → brokers_behind t b n ≤ length t
  unfolding brokers_behind
  behind_fewer b n e =
      let w = edge_within t b n hung e in
      let l = total_less (λ c. one (eqb (hop t c b) n)) (suc (length t)) b (omega arith) (λ i k. one_most (eqb (hop t i b) n)) (ap one (ne_eqb (hop t b b) n (λ j. edge_apart t hung b n e (sym (hop_self t b) ∙ j)))) in
      omega arith
