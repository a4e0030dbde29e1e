-- What a broker finds in the memory: its own subscribers, and what it has learned from those beside it, and room for all of it.
use Rattle.std.proofs.Common.{◌≡◌, ℕ, zero, suc, ◌+◌, ◌*◌, ◌<◌, ◌≤◌, true, cond, not, ◌&&◌, eqb, ltb, List, [], ◌∷◌, ◌++◌, map, length, get_or, sym, refl, ap, ◌∙◌, mul-le-mul_left, arith}
use Rattle.std.specs.List.{AllByRecursion}
use Rattle.std.proofs.lemmas.List.{length-map}
use Rattle.std.proofs.lemmas.Bool.{cond-true, lt-ltb}
use Rattle.filter.specs.Filter.{Filter, Notice}
use Rattle.cover.specs.Maximal.{any_matches}
use Rattle.cover.specs.Table.{laid}
use Rattle.broker.specs.Subscribers.{Whole, subscribers}
use Rattle.broker.specs.Announcing.{Learned, learned_from, to_announce, table_at, known_but}
use Rattle.broker.specs.Forwarding.{wanting}
use Rattle.broker.specs.declared.neighbour.Neighbour.{Neighbour}
use Rattle.broker.proofs.Gathered.{others_known}
use Rattle.broker.proofs.Kept.{held_kept}
use Rattle.broker.proofs.Part.{shape_held, shape_whole}
use Rattle.model.specs.Tree.{edge, neighbours}
use Rattle.model.specs.Model.{announcement}
use Rattle.layout.specs.Memory.{table_words}
use Rattle.layout.specs.Parts.{tree, filters_room, subscribers_part}
use Rattle.layout.specs.State.{network_of, Formed}
use Rattle.routing.specs.Around.{Surrounds, Ready}
use Rattle.layout.specs.declared.opening.Opening.{Opening}
use Rattle.routing.proofs.Announced.{known_fits, others_alike, announces_alike}
use Rattle.routing.proofs.Compared.{kept_whole}

-- whom a notice goes on to depends on the tables of those neighbours only
wanting_alike : (table other : ℕ → List Filter) (ns : List ℕ) (from : ℕ) (e : Notice) (k : ℕ) → ((j : ℕ) → j < k → table j ≡ other j) →
    wanting table ns from e k ≡ wanting other ns from e k
unfolding wanting
wanting_alike table other ns from e zero h = refl
wanting_alike table other ns from e (suc k) h =
    let r = wanting_alike table other ns from e k (λ j l. h j (omega arith)) in
    let t = h k (omega arith) in
    λ i. r i ++ cond (not (eqb (get_or ns k 0) from) && any_matches (t i) e) (get_or ns k 0 ∷ []) []

-- what holds of each of a list by one property holds by another that follows
each : {A : Type 0} {P Q : A → Type 0} → ((x : A) → P x → Q x) → (xs : List A) → AllByRecursion P xs → AllByRecursion Q xs
each f [] h = tt
each f (x ∷ xs) h = (f x h.0, each f xs h.1)

-- what was learned from the j-th neighbour, by its number
table_known : (m : ℕ) (known : ℕ → List Filter) (ns : List Neighbour) → AllByRecursion (λ n. learned_from m n ≡ known n.broker) ns →
    (j : ℕ) → j < length ns → table_at m ns j ≡ known (get_or (map (λ n. n.broker) ns) j 0)
table_known m known [] h j l = absurd (omega arith)
table_known m known (n ∷ ns) h zero l = h.0
table_known m known (n ∷ ns) h (suc j) l = table_known m known ns h.1 j (omega arith)

module _ (o : Opening) (memory : List ℕ) (b : ℕ) (mem : Formed o memory) (there : b < o.brokers) where
  -- the broker's own subscribers
  pub own_subscribers : subscribers o.ranges (subscribers_part o memory b) ≡ (network_of o memory).subscribers b
  unfolding network_of
  own_subscribers =
      let t = lt-ltb b o.brokers there in
      sym (cond-true (ltb b o.brokers) (subscribers o.ranges (subscribers_part o memory b)) [] t)

  pub own_whole : Whole o.ranges (subscribers_part o memory b)
  own_whole =
      shape_whole o.subscribers o.ranges (subscribers_part o memory b)
      (shape_held o.subscribers o.ranges ((network_of o memory).subscribers b) (subscribers_part o memory b) (mem.subscribers b there))

  -- there are no more of them than there is room for
  pub own_few : get_or (subscribers_part o memory b) 0 0 ≤ o.subscribers
  own_few = (shape_held o.subscribers o.ranges ((network_of o memory).subscribers b) (subscribers_part o memory b) (mem.subscribers b there)).1

  module _ (ns : List Neighbour) (around : Surrounds o memory b ns) where
    pub around_learned : Learned o.ranges ns
    around_learned = each (λ n h. kept_whole (filters_room o) o.ranges ((network_of o memory).learned b n.broker) n.learned.now h) ns around.tables

    -- each table holds what the network has learned
    tables_held : AllByRecursion (λ n. learned_from o.ranges n ≡ (network_of o memory).learned b n.broker) ns
    tables_held = each (λ n h. held_kept (filters_room o) o.ranges ((network_of o memory).learned b n.broker) n.learned.now h) ns around.tables

    pub around_many : length ns ≡ length (neighbours (tree o) b)
    around_many = sym (length-map ns (λ n. n.broker)) ∙ ap length around.beside

    -- the own subscribers' part, as it is lent
    module _ (own : List ℕ) (mine : own ≡ subscribers_part o memory b) (n : ℕ) where
      pub known_room : Ready o memory b → edge (tree o) b n ≡ true → (size : ℕ) → size ≡ table_words o.ranges o.brokers o.subscribers →
          1 + 2 * o.ranges * length (known_but o.ranges (subscribers o.ranges own) ns n) ≤ size
      known_room ready e size sized =
          let q = own_subscribers in
          let k = others_known o.ranges ((network_of o memory).learned b) ns n tables_held in
          let a = others_alike ((network_of o memory).learned b) n (neighbours (tree o) b) in
          let p = mul-le-mul_left (2 * o.ranges) (known_fits o memory b ready n e) in
          rw (mine, q, k, around.beside, a, sized) (omega arith)

      pub announcement_found : (words : ℕ) (out : List ℕ) →
          ((table : ℕ → List Filter) → AllByRecursion (λ k. learned_from o.ranges k ≡ table k.broker) ns →
          out ≡ laid (2 * o.ranges) words (to_announce (subscribers o.ranges own) table (map (λ k. k.broker) ns) n)) →
          out ≡ laid (2 * o.ranges) words (announcement (tree o) (network_of o memory) b n)
      announcement_found words out h =
          let q = own_subscribers in
          let s = network_of o memory in
          let r = h (s.learned b) tables_held in
          let x : out ≡ laid (2 * o.ranges) words (to_announce (s.subscribers b) (s.learned b) (neighbours (tree o) b) n) = rw (mine, around.beside, q) at r in
          x ∙ ap (laid (2 * o.ranges) words) (announces_alike (s.subscribers b) (s.learned b) (neighbours (tree o) b) n)

    -- whom a notice goes on to
    pub wanting_found : (from : ℕ) (e : Notice) →
        wanting (table_at o.ranges ns) (map (λ n. n.broker) ns) from e (length ns)
        ≡ wanting (λ j. (network_of o memory).learned b (get_or (neighbours (tree o) b) j 0)) (neighbours (tree o) b) from e (length (neighbours (tree o) b))
    wanting_found from e =
        wanting_alike _ _ (map (λ n. n.broker) ns) from e (length ns) (table_known o.ranges ((network_of o memory).learned b) ns tables_held)
        ∙ (λ i. wanting (λ j. (network_of o memory).learned b (get_or (around.beside i) j 0)) (around.beside i) from e (around_many i))
