-- Whether a filter is known to all, asked of one broker after the other.
use Rattle.std.proofs.Common.{◌≡◌, ℕ, zero, suc, ◌+◌, ◌<◌, Bool, true, false, ◌&&◌, ◌||◌, eqb, ◌⊎◌, length, sym, refl, ap, ◌∙◌, inl, inr, Decides, subst, arith}
use Rattle.std.proofs.lemmas.Bool.{cases_order, and_from, and_left, and_right}
use Rattle.std.specs.Bool.{MatchBool}
use Rattle.std.specs.List.{AllWithin, HoldsAt, range_with_len}
use Rattle.filter.specs.Filter.{Filter}
use Rattle.steps.proofs.Ranges.{each_in_range, one_in_range}
use Rattle.model.specs.Tree.{Tree, hop, edge}
use Rattle.model.specs.Model.{Network}
use Rattle.model.specs.Promise.{lasts, covering, all_below, is_known, KnownToAll}
use Rattle.model.proofs.Decide.{tested}
use Rattle.model.proofs.Tree.{edge_sym, hop_edge}
use Rattle.layout.specs.Parts.{tree}
use Rattle.layout.specs.declared.opening.Opening.{Opening}
use Rattle.layout.proofs.Written.{tree_length, tree_hung}

all_below_each : (test : ℕ → Bool) (n : ℕ) → ((k : ℕ) → k < n → test k ≡ true) → all_below test n ≡ true
unfolding all_below
all_below_each test zero h = refl
all_below_each test (suc n) h = and_from (test n) (all_below test n) (h n (omega arith)) (all_below_each test n (λ k l. h k (omega arith)))

-- one that fails is enough
all_below_not : (test : ℕ → Bool) (n k : ℕ) → k < n → test k ≡ false → all_below test n ≡ false
unfolding all_below
all_below_not test zero k h q = absurd (omega arith)
all_below_not test (suc n) k h q = go (cases_order k n) (all_below_not test n k)
  where
    go : (k ≡ n) ⊎ ((k < n) ⊎ (n < k)) → (k < n → test k ≡ false → all_below test n ≡ false) → (test n && all_below test n) ≡ false
    go (inl e) r = and_left (test n) (all_below test n) (ap test (sym e) ∙ q)
    go (inr (inl l)) r = and_right (test n) (all_below test n) (r l q)
    go (inr (inr l)) r = absurd (omega arith)

-- the filter of a subscriber at c is known at b
abbrev pub known_at : Tree → Network → (c : ℕ) → Filter → (b : ℕ) → Bool
known_at t s c f b = eqb b c || lasts (covering f) (s.channel (hop t c b) b) (s.learned b (hop t c b))

-- the broker that lies towards c from b
pub next_beside : (o : Opening) (c b n : ℕ) → c < o.brokers → b < o.brokers → (b ≡ c → ⊥) → n ≡ hop (tree o) c b → edge (tree o) n b ≡ true
next_beside o c b n p q ne e =
    let l = tree_length o in
    ap (λ x. edge (tree o) x b) e ∙ (edge_sym (tree o) (hop (tree o) c b) b ∙ hop_edge (tree o) c b (tree_hung o) (omega arith) (omega arith) ne)

-- known at each broker, or not at one
module _ (o : Opening) (s : Network) (c : ℕ) (f : Filter) where
  told : (r : Bool) →
      MatchBool r (AllWithin (λ b. known_at (tree o) s c f b ≡ true) (range_with_len 0 o.brokers) 0 (length (range_with_len 0 o.brokers)))
      ((i : ℕ) × (i < length (range_with_len 0 o.brokers)) × HoldsAt (λ b. known_at (tree o) s c f b ≡ false) (range_with_len 0 o.brokers) i) →
      r ≡ is_known (tree o) s c f
  unfolding is_known
  told true h =
      let l = tree_length o in
      let v = o.valid.1.0 in
      sym (all_below_each (known_at (tree o) s c f) (suc (length (tree o))) (λ b q. each_in_range (λ b. known_at (tree o) s c f b ≡ true) 0 o.brokers h b (omega arith) (omega arith)))
  told false (i, l, h) =
      let n = tree_length o in
      let v = o.valid.1.0 in
      let (b, e) = one_in_range (λ b. known_at (tree o) s c f b ≡ false) 0 o.brokers i l h in
      sym (all_below_not (known_at (tree o) s c f) (suc (length (tree o))) (0 + i) (omega arith) e)

  pub known_answer : (r : Bool) →
      MatchBool r (AllWithin (λ b. known_at (tree o) s c f b ≡ true) (range_with_len 0 o.brokers) 0 (length (range_with_len 0 o.brokers)))
      ((i : ℕ) × (i < length (range_with_len 0 o.brokers)) × HoldsAt (λ b. known_at (tree o) s c f b ≡ false) (range_with_len 0 o.brokers) i) →
      Decides r (KnownToAll (tree o) s c f)
  known_answer r h = subst (λ v. Decides v (KnownToAll (tree o) s c f)) (sym (told r h)) ((tested (tree o) s).known c f)
