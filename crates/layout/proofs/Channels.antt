-- The tree of an opening, and that each of its channels has a number of its own.
use Rattle.std.proofs.Common.{◌≡◌, ℕ, zero, suc, ◌+◌, ◌-◌, ◌*◌, ◌<◌, ◌≤◌, Bool, true, false, cond, eqb, ◌⊎◌, List, length, get_or, sym, refl, ap, ◌∙◌, inl, inr, arith}
use Rattle.std.proofs.lemmas.Bool.{or_cases}
use Rattle.std.proofs.lemmas.Bool.Decides.{nat_tests}
use Rattle.layout.specs.Opening.{HangsTogether}
use Rattle.model.specs.Tree.{Tree, hangs, up, neighbours, has, hangs_on}
use Rattle.layout.specs.Links.{tree_of, link, Links}
use Rattle.model.proofs.Tree.{up_less, edge_up, neighbours_edge}

length_tree : (hung : List ℕ) (k : ℕ) → length (tree_of hung k) ≡ k
unfolding tree_of
length_tree hung zero = refl
length_tree hung (suc k) = ap suc (length_tree hung k)

tree_hangs : (hung : List ℕ) (k : ℕ) → HangsTogether (suc k) hung → hangs (tree_of hung k) ≡ true
unfolding tree_of hangs
tree_hangs hung zero h = refl
tree_hangs hung (suc k) h =
    let l = length_tree hung k in
    let r = tree_hangs hung k (λ b p q. h b p (omega arith)) in
    let s = h (suc k) (omega arith) (omega arith) in
    grind (arith, nat_tests)

tree_up : (hung : List ℕ) (k b : ℕ) → 0 < b → b ≤ k → up (tree_of hung k) b ≡ get_or hung b 0
unfolding tree_of up
tree_up hung zero b p q = absurd (omega arith)
tree_up hung (suc k) b p q = go (eqb b (suc (length (tree_of hung k)))) refl (tree_up hung k b p)
  where
    go : (t : Bool) → eqb b (suc (length (tree_of hung k))) ≡ t → (b ≤ k → up (tree_of hung k) b ≡ get_or hung b 0) → cond t (get_or hung (suc k) 0) (up (tree_of hung k) b) ≡ get_or hung b 0
    go true e r =
        let l = length_tree hung k in
        let s : b ≡ suc k = grind (arith, nat_tests) in
        ap (λ i. get_or hung i 0) (sym s)
    go false e r =
        let l = length_tree hung k in
        r (grind (arith, nat_tests))

-- of two brokers beside each other one hangs on the other, which has a smaller number
data Beside (t : Tree) (a b : ℕ) : Type 0 where
  upward : 0 < a → a ≤ length t → b ≡ up t a → b < a → Beside t a b
  downward : 0 < b → b ≤ length t → a ≡ up t b → a < b → Beside t a b

hangs_parts : (t : Tree) (a b : ℕ) → hangs_on t a b ≡ true → (0 < a) × (a ≤ length t) × (b ≡ up t a)
unfolding hangs_on
hangs_parts t a b h = (grind (arith, nat_tests), grind (arith, nat_tests), grind (arith, nat_tests))

beside : (t : Tree) (a b : ℕ) → hangs t ≡ true → a ≤ length t → has (neighbours t a) b ≡ true → Beside t a b
beside t a b h l e = go (or_cases (hangs_on t a b) (hangs_on t b a) (sym (neighbours_edge t a b l ∙ edge_up t a b) ∙ e))
  where
    go : (hangs_on t a b ≡ true) ⊎ (hangs_on t b a ≡ true) → Beside t a b
    go (inl p) =
        let (x, y, z) = hangs_parts t a b p in
        let u = up_less t a h x y in
        upward x y z (omega arith)
    go (inr p) =
        let (x, y, z) = hangs_parts t b a p in
        let u = up_less t b h x y in
        downward x y z (omega arith)

link_up : (a b : ℕ) → b < a → link a b ≡ 2 * (a - 1)
link_up a b h = grind (arith, nat_tests)

link_down : (a b : ℕ) → a < b → link a b ≡ 2 * (b - 1) + 1
link_down a b h = grind (arith, nat_tests)

link_within : (t : Tree) (a b : ℕ) → Beside t a b → link a b < 2 * length t
link_within t a b (upward p q r s) =
    let l = link_up a b s in
    omega arith
link_within t a b (downward p q r s) =
    let l = link_down a b s in
    omega arith

link_apart : (t : Tree) (a b c d : ℕ) → Beside t a b → Beside t c d → link a b ≡ link c d → (a ≡ c) × (b ≡ d)
link_apart t a b c d (upward p q r s) (upward p' q' r' s') e =
    let l = link_up a b s in
    let k = link_up c d s' in
    let x : a ≡ c = omega arith in
    (x, r ∙ ap (up t) x ∙ sym r')
link_apart t a b c d (upward p q r s) (downward p' q' r' s') e =
    let l = link_up a b s in
    let k = link_down c d s' in
    absurd (omega arith)
link_apart t a b c d (downward p q r s) (upward p' q' r' s') e =
    let l = link_down a b s in
    let k = link_up c d s' in
    absurd (omega arith)
link_apart t a b c d (downward p q r s) (downward p' q' r' s') e =
    let l = link_down a b s in
    let k = link_down c d s' in
    let x : b ≡ d = omega arith in
    (r ∙ ap (up t) x ∙ sym r', x)

pub links : Links
links hung brokers l h =
    let t = tree_of hung (brokers - 1) in
    let m = length_tree hung (brokers - 1) in
    let g : hangs t ≡ true = tree_hangs hung (brokers - 1) (λ b p q. h b p (omega arith)) in
    record {
      together = g;
      many = m;
      hung_on = λ b p q. tree_up hung (brokers - 1) b p (omega arith);
      within = λ a b p e. rw m at (link_within t a b (beside t a b g (omega arith) e));
      apart = λ a b c d p q e f s. link_apart t a b c d (beside t a b g (omega arith) e) (beside t c d g (omega arith) f) s;
    }
