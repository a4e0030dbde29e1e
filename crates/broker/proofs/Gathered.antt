-- A table of maximal filters that grows by one neighbour's table after the other.
use Rattle.std.proofs.Common.{◌≡◌, ℕ, zero, suc, ◌+◌, ◌*◌, ◌<◌, ◌≤◌, Bool, true, false, cond, eqb, List, [], ◌∷◌, ◌++◌, map, length, get_or, drop, replicate, sym, refl, ap, ◌∙◌, mul-le-mul_left, arith}
use Rattle.std.specs.List.{AllByRecursion}
use Rattle.std.proofs.lemmas.List.{length-append, length-drop, drop_all, drop_more}
use Rattle.std.proofs.lemmas.Bool.Decides.{nat_tests}
use Rattle.filter.specs.Filter.{Filter}
use Rattle.cover.specs.Maximal.{among, insert, maximal}
use Rattle.cover.specs.Table.{Wide, held, stored, laid, inserted_all}
use Rattle.cover.proofs.Members.{among_append}
use Rattle.cover.proofs.RowLaws.{wide_head, wide_tail}
use Rattle.cover.proofs.TableLaws.{length_held, length_insert, getD_stored, wide_cons, wide_held, inserted_all_none}
use Rattle.broker.specs.Subscribers.{Subscriber, subscriber, subscribers, filters_of, Whole}
use Rattle.broker.specs.Announcing.{Learned, learned_from, others, known_but, from_others, to_announce}
use Rattle.broker.specs.declared.neighbour.Neighbour.{Neighbour}
use Rattle.broker.proofs.Slots.{length_subscribers}

pub wide_append : (w : ℕ) (fs gs : List Filter) → Wide w fs → Wide w gs → Wide w (fs ++ gs)
wide_append w fs gs a b = λ x m.
    let p = a x in
    let q = b x in
    let e = among_append x fs gs in
    grind arith

wide_none : (w : ℕ) → Wide w []
unfolding among
wide_none w = λ x m. absurd (grind arith)

-- the filters of rows that have a word more
wide_filters : (w : ℕ) (gs : List Filter) → Wide (1 + w) gs → Wide w (filters_of (map subscriber gs))
unfolding filters_of
wide_filters w [] h = wide_none w
wide_filters w (g ∷ gs) h =
    let l = wide_head (1 + w) g gs h in
    wide_cons w (drop 1 g) (filters_of (map subscriber gs)) (omega (arith, length-drop 1 g)) (wide_filters w gs (wide_tail (1 + w) g gs h))

pub wide_own : (m : ℕ) (ws : List ℕ) → Whole m ws → Wide (2 * m) (filters_of (subscribers m ws))
unfolding subscribers
wide_own m ws h = wide_filters (2 * m) (held (1 + 2 * m) ws) (wide_held (1 + 2 * m) ws h)

length_filters : (rs : List Subscriber) → length (filters_of rs) ≡ length rs
unfolding filters_of
length_filters [] = refl
length_filters (r ∷ rs) = ap suc (length_filters rs)

pub length_own : (m : ℕ) (ws : List ℕ) → length (filters_of (subscribers m ws)) ≡ get_or ws 0 0
length_own m ws = length_filters (subscribers m ws) ∙ length_subscribers m ws

-- what was learned from neighbours is as wide as a filter
pub wide_others : (m : ℕ) (ns : List Neighbour) (n : ℕ) → Learned m ns → Wide (2 * m) (others m ns n)
unfolding others
wide_others m [] n h = wide_none (2 * m)
wide_others m (k ∷ ks) n h = go (eqb k.broker n) (wide_others m ks n h.1)
  where
    go : (t : Bool) → Wide (2 * m) (others m ks n) → Wide (2 * m) (cond t (others m ks n) (learned_from m k ++ others m ks n))
    go true w = w
    go false w = wide_append (2 * m) (learned_from m k) (others m ks n) (wide_held (2 * m) k.learned.now h.0) w

-- filters inserted one after the other: in two parts, and how many there are then at most
inserted_append : (w : ℕ) (fs gs : List Filter) (t : List ℕ) → inserted_all w (fs ++ gs) t ≡ inserted_all w gs (inserted_all w fs t)
unfolding inserted_all
inserted_append w [] gs t = refl
inserted_append w (f ∷ fs) gs t = inserted_append w fs gs (stored w (insert f (held w t)) t)

inserted_count : (w : ℕ) (fs : List Filter) (t : List ℕ) → get_or (inserted_all w fs t) 0 0 ≤ get_or t 0 0 + length fs
unfolding inserted_all
inserted_count w [] t = omega arith
inserted_count w (f ∷ fs) t =
    let r = inserted_count w fs (stored w (insert f (held w t)) t) in
    let e = getD_stored w (insert f (held w t)) t in
    let k = length_insert f (held w t) in
    let l = length_held w t in
    omega arith

pub count_cleared : (n : ℕ) → get_or (replicate {A = ℕ} n 0) 0 0 ≡ 0
count_cleared zero = refl
count_cleared (suc n) = refl

-- the filters of the i-th neighbour and those behind it
others_drop : (m : ℕ) (ns : List Neighbour) (n i : ℕ) (d : Neighbour) → i < length ns →
    others m (drop i ns) n ≡ cond (eqb (get_or ns i d).broker n) (others m (drop (i + 1) ns) n) (learned_from m (get_or ns i d) ++ others m (drop (i + 1) ns) n)
unfolding others
others_drop m ns n i d l = ap (λ ks. others m ks n) (drop_more ns i d l)

-- the table after the first i neighbours: what those behind them hold makes of it what all filters make of an empty table, and there is room for it
pub record Gathered (m : ℕ) (own : List ℕ) (ns : List Neighbour) (n : ℕ) (out : List ℕ) (i : ℕ) : Type 0 where
  pub words : inserted_all (2 * m) (others m (drop i ns) n) out ≡ inserted_all (2 * m) (known_but m (subscribers m own) ns n) (replicate (length out) 0)
  pub few : get_or out 0 0 + length (others m (drop i ns) n) ≤ length (known_but m (subscribers m own) ns n)

module _ (m : ℕ) (own : List ℕ) (ns : List Neighbour) (n : ℕ) (out : List ℕ) where
  pub gathered_none : out ≡ inserted_all (2 * m) (filters_of (subscribers m own)) (replicate (length out) 0) → Gathered m own ns n out 0
  gathered_none e =
      let fs = filters_of (subscribers m own) in
      let gs = others m ns n in
      let k = inserted_count (2 * m) fs (replicate (length out) 0) in
      let z = count_cleared (length out) in
      let l = length-append fs gs in
      let c : get_or out 0 0 ≡ get_or (inserted_all (2 * m) fs (replicate (length out) 0)) 0 0 = ap (λ t. get_or t 0 0) e in
      record { words = ap (inserted_all (2 * m) gs) e ∙ sym (inserted_append (2 * m) fs gs (replicate (length out) 0)); few = omega arith }

  module _ (i : ℕ) (d : Neighbour) (l : i < length ns) (h : Gathered m own ns n out i) where
    pub gathered_skip : (get_or ns i d).broker ≡ n → Gathered m own ns n out (i + 1)
    gathered_skip e =
        let o = others_drop m ns n i d l in
        let s : others m (drop i ns) n ≡ others m (drop (i + 1) ns) n = grind (arith, nat_tests) in
        record { words = rw (← s) h.words; few = rw (← s) h.few }

    more : ((get_or ns i d).broker ≡ n → ⊥) → others m (drop i ns) n ≡ learned_from m (get_or ns i d) ++ others m (drop (i + 1) ns) n
    more e =
        let o = others_drop m ns n i d l in
        grind (arith, nat_tests)

    pub gathered_room : ((get_or ns i d).broker ≡ n → ⊥) → (size : ℕ) → 1 + 2 * m * length (known_but m (subscribers m own) ns n) ≤ size →
        1 + 2 * m * (get_or out 0 0 + get_or (get_or ns i d).learned.now 0 0) ≤ size
    gathered_room e size r =
        let a = ap length (more e) in
        let b = length-append (learned_from m (get_or ns i d)) (others m (drop (i + 1) ns) n) in
        let c = length_held (2 * m) (get_or ns i d).learned.now in
        let f = h.few in
        let k : get_or out 0 0 + get_or (get_or ns i d).learned.now 0 0 ≤ length (known_but m (subscribers m own) ns n) = omega arith in
        omega (arith, mul-le-mul_left (2 * m) k)

    pub gathered_more : ((get_or ns i d).broker ≡ n → ⊥) → (new : List ℕ) → length new ≡ length out → new ≡ inserted_all (2 * m) (learned_from m (get_or ns i d)) out →
        Gathered m own ns n new (i + 1)
    gathered_more e new s q =
        let fs = learned_from m (get_or ns i d) in
        let gs = others m (drop (i + 1) ns) n in
        let a = more e in
        let b = ap length a ∙ length-append fs gs in
        let k = inserted_count (2 * m) fs out in
        let c : get_or new 0 0 ≡ get_or (inserted_all (2 * m) fs out) 0 0 = ap (λ t. get_or t 0 0) q in
        let f = h.few in
        record {
          words = rw s (ap (inserted_all (2 * m) gs) q ∙ sym (inserted_append (2 * m) fs gs out) ∙ ap (λ x. inserted_all (2 * m) x out) (sym a) ∙ h.words);
          few = omega arith;
        }

  pub gathered_all : (i : ℕ) → length ns ≤ i → Gathered m own ns n out i → Whole m own → Learned m ns →
      1 + 2 * m * length (known_but m (subscribers m own) ns n) ≤ length out → out ≡ laid (2 * m) (length out) (maximal (known_but m (subscribers m own) ns n))
  unfolding others inserted_all
  gathered_all i l h whole learned room =
      let e = ap (λ ks. inserted_all (2 * m) (others m ks n) out) (drop_all i ns l) in
      let w = wide_append (2 * m) (filters_of (subscribers m own)) (others m ns n) (wide_own m own whole) (wide_others m ns n learned) in
      sym e ∙ h.words ∙ inserted_all_none (2 * m) (length out) (known_but m (subscribers m own) ns n) w room

-- what the tables of neighbours hold, by their numbers
pub others_known : (m : ℕ) (known : ℕ → List Filter) (ns : List Neighbour) (n : ℕ) → AllByRecursion (λ k. learned_from m k ≡ known k.broker) ns →
    others m ns n ≡ from_others known n (map (λ k. k.broker) ns)
unfolding others from_others
others_known m known [] n h = refl
others_known m known (k ∷ ks) n h =
    let r = others_known m known ks n h.1 in
    λ i. cond (eqb k.broker n) (r i) (h.0 i ++ r i)

pub announced_all : (m : ℕ) (known : ℕ → List Filter) (own : List Subscriber) (ns : List Neighbour) (n : ℕ) → AllByRecursion (λ k. learned_from m k ≡ known k.broker) ns →
    maximal (known_but m own ns n) ≡ to_announce own known (map (λ k. k.broker) ns) n
unfolding to_announce
announced_all m known own ns n h = ap (λ fs. maximal (filters_of own ++ fs)) (others_known m known ns n h)
