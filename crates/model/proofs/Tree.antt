-- The facts about the tree that the promises rest on: who is beside whom, that no way turns back, that a hop comes nearer.
use Rattle.std.proofs.Common.{◌≡◌, ℕ, zero, suc, ◌<◌, ◌≤◌, Bool, true, false, not, ◌&&◌, ◌||◌, eqb, ltb, leb, List, [], ◌∷◌, ◌++◌, length, sym, refl, ap, ◌∙◌, arith}
use Rattle.std.proofs.lemmas.Bool.Decides.{nat_tests}
use Rattle.std.proofs.lemmas.Bool.{both_ways}
use Rattle.model.specs.Tree.{Tree, hangs, up, under, neighbours, has, edge, hop, distance, rank, hangs_on, distinct, Trees}

pub hop_self : (t : Tree) (b : ℕ) → hop t b b ≡ b
unfolding hop
hop_self [] b = refl
hop_self (p ∷ t) b =
    let r = hop_self t b in
    grind (arith, nat_tests)

pub hop_within : (t : Tree) (c b : ℕ) → hangs t ≡ true → c ≤ length t → b ≤ length t → hop t c b ≤ length t
unfolding hop hangs
hop_within [] c b h p q = q
hop_within (p ∷ t) c b h hc hb =
    let r = hop_within t c b in
    let r2 = hop_within t p b in
    grind (arith, nat_tests)

pub edge_within : (t : Tree) (a b : ℕ) → hangs t ≡ true → edge t a b ≡ true → (a ≤ length t) × (b ≤ length t)
unfolding edge hangs
edge_within [] a b h e = grind arith
edge_within (p ∷ t) a b h e =
    let r = edge_within t a b in
    grind (arith, nat_tests)

pub edge_sym : (t : Tree) (a b : ℕ) → edge t a b ≡ edge t b a
unfolding edge
edge_sym [] a b = refl
edge_sym (p ∷ t) a b =
    let r = edge_sym t a b in
    grind (arith, nat_tests)

pub edge_irrefl : (t : Tree) (a : ℕ) → hangs t ≡ true → edge t a a ≡ false
unfolding edge hangs
edge_irrefl [] a h = refl
edge_irrefl (p ∷ t) a h =
    let r = edge_irrefl t a in
    grind (arith, nat_tests)

pub edge_apart : (t : Tree) → hangs t ≡ true → (a b : ℕ) → edge t a b ≡ true → a ≡ b → ⊥
edge_apart t h a b e i = both_ways (edge t b b) (edge_irrefl t b h) (ap (λ x. edge t x b) (sym i) ∙ e)

-- the next hop is beside
pub hop_edge : (t : Tree) (c b : ℕ) → hangs t ≡ true → c ≤ length t → b ≤ length t → (b ≡ c → ⊥) → edge t b (hop t c b) ≡ true
unfolding hop edge hangs
hop_edge [] c b h p q ne = absurd (ne (omega arith))
hop_edge (p ∷ t) c b h hc hb ne =
    let r = hop_edge t c b in
    let r2 = hop_edge t p b in
    grind (arith, nat_tests)

-- of two brokers beside each other just one lies towards c, seen from the other: so no way turns back, and every other neighbour's way leads through
pub hop_one_way : (t : Tree) (c b n : ℕ) → hangs t ≡ true → c ≤ length t → edge t b n ≡ true → eqb (hop t c b) n ≡ not (eqb (hop t c n) b)
unfolding hop edge hangs
hop_one_way [] c b n h hc e = grind arith
hop_one_way (p ∷ t) c b n h hc e =
    let r = hop_one_way t c b n in
    let r2 = hop_one_way t p b n in
    let s1 = hop_self t p in
    let w1 = hop_within t c b in
    let w2 = hop_within t c n in
    let w3 = edge_within t b n in
    let w4 = edge_irrefl t b in
    grind (arith, nat_tests)

pub distance_self : (t : Tree) (b : ℕ) → distance t b b ≡ 0
unfolding distance
distance_self [] b = refl
distance_self (p ∷ t) b =
    let r = distance_self t b in
    grind (arith, nat_tests)

-- a hop comes nearer
pub hop_nearer : (t : Tree) (c b : ℕ) → hangs t ≡ true → c ≤ length t → b ≤ length t → (b ≡ c → ⊥) → suc (distance t c (hop t c b)) ≡ distance t c b
unfolding hop distance hangs
hop_nearer [] c b h p q ne = absurd (ne (omega arith))
hop_nearer (p ∷ t) c b h hc hb ne =
    let r = hop_nearer t c b in
    let r2 = hop_nearer t p b in
    let w = hop_within t c b in
    let w2 = hop_within t p b in
    let d = distance_self t p in
    grind (arith, nat_tests)

pub up_less : (t : Tree) (b : ℕ) → hangs t ≡ true → 0 < b → b ≤ length t → up t b < b
unfolding up hangs
up_less [] b h p q = omega arith
up_less (p ∷ t) b h hp hq =
    let r = up_less t b in
    grind (arith, nat_tests)

hangs_on_more : (p : ℕ) (t : Tree) (a b : ℕ) → hangs_on (p ∷ t) a b ≡ ((eqb a (suc (length t)) && eqb b p) || hangs_on t a b)
unfolding hangs_on up
hangs_on_more p t a b = grind (arith, nat_tests)

hangs_on_none : (a b : ℕ) → false ≡ (hangs_on [] a b || hangs_on [] b a)
unfolding hangs_on
hangs_on_none a b = grind (arith, nat_tests)

or_swap : (w x y z : Bool) → ((w || x) || (y || z)) ≡ ((w || y) || (x || z))
or_swap true x y z = refl
or_swap false true true z = refl
or_swap false true false z = refl
or_swap false false y z = refl

-- one of two brokers beside each other hangs on the other
pub edge_up : (t : Tree) (a b : ℕ) → edge t a b ≡ (hangs_on t a b || hangs_on t b a)
unfolding edge
edge_up [] a b = hangs_on_none a b
edge_up (p ∷ t) a b =
    rw
    (hangs_on_more p t a b, hangs_on_more p t b a, edge_up t a b)
    (or_swap (eqb a (suc (length t)) && eqb b p) (eqb b (suc (length t)) && eqb a p) (hangs_on t a b) (hangs_on t b a))

pub has_append : (ms ns : List ℕ) (k : ℕ) → has (ms ++ ns) k ≡ (has ms k || has ns k)
unfolding has
has_append [] ns k = refl
has_append (m ∷ ms) ns k =
    let r = has_append ms ns k in
    grind (arith, nat_tests)

-- a number that the list has is none that it lacks
pub has_apart : (ks : List ℕ) (j k : ℕ) → has ks k ≡ true → has ks j ≡ false → j ≡ k → ⊥
has_apart ks j k p new i = both_ways (has ks k) (ap (has ks) (sym i) ∙ new) p

pub under_has : (t : Tree) (b k n : ℕ) → has (under t b k) n ≡ ((ltb 0 n && leb n k) && eqb (up t n) b)
unfolding under has
under_has t b zero n = grind (arith, nat_tests)
under_has t b (suc k) n =
    let r = under_has t b k n in
    let a = has_append (under t b k) (suc k ∷ []) n in
    grind (arith, nat_tests)

-- the neighbours of a broker are those that it hangs together with
pub neighbours_edge : (t : Tree) (b n : ℕ) → b ≤ length t → has (neighbours t b) n ≡ edge t b n
unfolding neighbours has hangs_on
neighbours_edge t zero n h =
    let r = under_has t zero (length t) n in
    let e = edge_up t zero n in
    grind (arith, nat_tests)
neighbours_edge t (suc b) n h =
    let r = under_has t (suc b) (length t) n in
    let e = edge_up t (suc b) n in
    grind (arith, nat_tests)

pub distinct_push : (ns : List ℕ) (k : ℕ) → distinct ns ≡ true → has ns k ≡ false → distinct (ns ++ k ∷ []) ≡ true
unfolding distinct has
distinct_push [] k d h = refl
distinct_push (n ∷ ns) k d h =
    let r = distinct_push ns k in
    let a = has_append ns (k ∷ []) n in
    grind (arith, nat_tests)

pub under_distinct : (t : Tree) (b k : ℕ) → distinct (under t b k) ≡ true
unfolding under distinct
under_distinct t b zero = refl
under_distinct t b (suc k) =
    let r = under_distinct t b k in
    let p = distinct_push (under t b k) (suc k) in
    let a = under_has t b k (suc k) in
    grind (arith, nat_tests)

pub neighbours_distinct : (t : Tree) (b : ℕ) → hangs t ≡ true → b ≤ length t → distinct (neighbours t b) ≡ true
unfolding neighbours distinct
neighbours_distinct t zero h hb = under_distinct t zero (length t)
neighbours_distinct t (suc b) h hb =
    let r = under_distinct t (suc b) (length t) in
    let a = under_has t (suc b) (length t) (up t (suc b)) in
    let u = up_less t (suc b) in
    let u2 = up_less t (up t (suc b)) in
    grind (arith, nat_tests)

pub rank_falls :
    (t : Tree) (b n m : ℕ) → hangs t ≡ true → edge t b n ≡ true → edge t n m ≡ true → (m ≡ b → ⊥) → rank t n m < rank t b n
unfolding rank hangs_on
rank_falls t b n m h e f ne =
    let e1 = edge_up t b n in
    let f1 = edge_up t n m in
    let u1 = up_less t b in
    let u2 = up_less t n in
    let u3 = up_less t m in
    grind (arith, nat_tests)

pub trees : Trees
trees t hung =
    record {
      who_is_beside = λ a b ha. neighbours_edge t a b ha ∙ edge_up t a b;
      once = λ a ha. neighbours_distinct t a hung ha;
      not_itself = λ a ha. neighbours_edge t a a ha ∙ edge_irrefl t a hung;
      both_ways = λ a b ha hb. neighbours_edge t a b ha ∙ (edge_sym t a b ∙ sym (neighbours_edge t b a hb));
      there = hop_self t;
      towards = λ c b hc hb ne. neighbours_edge t b (hop t c b) hb ∙ hop_edge t c b hung hc hb ne;
      nearer = λ c b hc hb ne. hop_nearer t c b hung hc hb ne;
      one_way = λ c b n hc hb beside. hop_one_way t c b n hung hc (sym (neighbours_edge t b n hb) ∙ beside);
    }
