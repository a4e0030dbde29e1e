-- Those beside a broker of an opening, and a pass that finds the table that was learned from each.
use Rattle.std.proofs.Common.{◌≡◌, ℕ, ◌+◌, ◌<◌, ◌≤◌, true, List, [], ◌∷◌, ◌++◌, map, length, get_or, take, sym, ap, ◌∙◌, arith}
use Rattle.std.specs.List.{between, AllByRecursion}
use Rattle.std.proofs.lemmas.List.{length_push, map_push, take_more}
use Rattle.broker.specs.Announcing.{Keeps}
use Rattle.broker.specs.declared.neighbour.Neighbour.{Neighbour}
use Rattle.model.specs.Tree.{neighbours, edge}
use Rattle.model.proofs.Tree.{edge_sym, neighbours_edge}
use Rattle.model.proofs.OneByOne.{getD_has}
use Rattle.layout.specs.Links.{link}
use Rattle.layout.specs.Plan.{size_of, start_of}
use Rattle.layout.specs.Parts.{tree, plan_of, filters_room}
use Rattle.layout.specs.State.{network_of, Formed}
use Rattle.layout.specs.declared.opening.Opening.{Opening}
use Rattle.layout.proofs.Besides.{told_all, told_few}
use Rattle.layout.proofs.Written.{lent_part, tree_length}

-- what holds of each of a list, and of one more
all_push : {A : Type 0} (P : A → Type 0) (xs : List A) (x : A) → AllByRecursion P xs → P x → AllByRecursion P (xs ++ x ∷ [])
all_push P [] x h p = (p, tt)
all_push P (y ∷ xs) x h p = (h.0, all_push P xs x h.1 p)

-- what stands in the row of those beside a broker hangs together with it
pub neighbour_edge : (o : Opening) (b j : ℕ) → b < o.brokers → j < length (neighbours (tree o) b) → edge (tree o) b (get_or (neighbours (tree o) b) j 0) ≡ true
neighbour_edge o b j h l =
    let e = tree_length o in
    sym (neighbours_edge (tree o) b (get_or (neighbours (tree o) b) j 0) (omega arith)) ∙ getD_has (neighbours (tree o) b) j l

-- there are no more of them than brokers
pub neighbours_few : (o : Opening) (b : ℕ) → length (neighbours (tree o) b) ≤ 16
neighbours_few o b =
    let e = tree_length o in
    let v = o.valid.1 in
    let f = told_few (tree o) b (length (tree o)) in
    let t = ap length (told_all (tree o) b) in
    omega arith

pub broker_within : (o : Opening) (b : ℕ) → b < o.brokers → b ≤ length (tree o)
broker_within o b h =
    let l = tree_length o in
    omega arith

-- the row of those beside a broker, as it is lent
module _ (o : Opening) (b : ℕ) (there : b < o.brokers) (row : List ℕ) (beside : row ≡ neighbours (tree o) b) (j : ℕ) (l : j < length row) where
  pub row_edge : edge (tree o) b (get_or row j 0) ≡ true
  row_edge = rw beside (neighbour_edge o b j there (rw beside at l))

  -- .. and the other way round
  pub row_back : edge (tree o) (get_or row j 0) b ≡ true
  row_back = edge_sym (tree o) (get_or row j 0) b ∙ row_edge

  -- the table that was learned from there, where it lies in the memory
  pub table_kept : (memory : List ℕ) → Formed o memory → (i at stop : ℕ) → i ≡ link (get_or row j 0) b → at ≡ start_of (plan_of o) 3 i → stop ≡ start_of (plan_of o) 3 i + size_of (plan_of o) 3 →
      Keeps (filters_room o) o.ranges ((network_of o memory).learned b (get_or row j 0)) (between at stop memory)
  table_kept memory formed i at stop p q r =
      let k = lent_part (plan_of o) 3 i at stop memory q r in
      rw (k, p) (formed.learned (get_or row j 0) b row_back)

  -- one neighbour more was found
  pub found_more : (P : Neighbour → Type 0) (was new : List Neighbour) (x : Neighbour) → x.broker ≡ get_or row j 0 → (map (λ n. n.broker) was ≡ take j (neighbours (tree o) b)) × (AllByRecursion P was) × (length was ≤ j) → P x → new ≡ was ++ x ∷ [] →
      (map (λ n. n.broker) new ≡ take (j + 1) (neighbours (tree o) b)) × (AllByRecursion P new) × (length new ≤ j + 1)
  found_more P was new x is (h, all, few) p e =
      let m = map_push (λ n. n.broker) was x in
      let t = take_more (neighbours (tree o) b) j 0 (rw beside at l) in
      let i : x.broker ≡ get_or (neighbours (tree o) b) j 0 = rw beside at is in
      (ap (map (λ n. n.broker)) e ∙ (m ∙ (ap (λ ks. ks ++ x.broker ∷ []) h ∙ (ap (λ k. take j (neighbours (tree o) b) ++ k ∷ []) i ∙ sym t))), rw e (all_push P was x all p), omega (arith, ap length e, length_push was x))
