-- What a broker that is ready to tell has to announce to one beside it: there is room for it in a table, and all of it is as wide as a filter.
use Rattle.std.specs.Prelude.{◌==◌}
use Rattle.std.proofs.Common.{◌≡◌, ℕ, suc, ◌+◌, ◌-◌, ◌*◌, ◌≤◌, true, cond, List, [], ◌∷◌, ◌++◌, length, sym, refl, ap, ◌∙◌, mul_comm, mul-le-mul_left, add-one, arith, length-append}
use Rattle.std.specs.List.{AllByRecursion}
use Rattle.filter.specs.Filter.{Filter}
use Rattle.cover.specs.Maximal.{among, maximal}
use Rattle.cover.specs.Table.{Wide}
use Rattle.cover.proofs.Maximals.{length_maximal}
use Rattle.cover.proofs.TableLaws.{wide_cons, wide_maximal}
use Rattle.broker.specs.Subscribers.{Subscriber, filters_of}
use Rattle.broker.specs.Announcing.{from_others as broker_others, to_announce as broker_announces}
use Rattle.broker.proofs.Gathered.{wide_append}
use Rattle.model.specs.Tree.{edge, neighbours}
use Rattle.model.specs.Model.{from_others, to_announce, announcement}
use Rattle.model.proofs.Tree.{edge_sym, edge_within, neighbours_edge}
use Rattle.model.proofs.Gather.{from_others_find}
use Rattle.model.proofs.Behind.{behind_fewer}
use Rattle.model.proofs.Fit.{length_filters, room}
use Rattle.layout.specs.Parts.{tree, filters_room}
use Rattle.layout.specs.State.{network_of}
use Rattle.routing.specs.Around.{Ready}
use Rattle.layout.specs.declared.opening.Opening.{Opening}
use Rattle.layout.proofs.Written.{tree_length, tree_hung}

-- the filters of subscribers each of whose filters has w words
wide_filters : (w : ℕ) (rs : List Subscriber) → AllByRecursion (λ r. length r.filter ≡ w) rs → Wide w (filters_of rs)
unfolding filters_of among
wide_filters w [] h = λ x m. absurd (grind arith)
wide_filters w (r ∷ rs) h = wide_cons w r.filter (filters_of rs) h.0 (wide_filters w rs h.1)

-- what the broker's functions find is what the network has to announce
pub others_alike : (table : ℕ → List Filter) (n : ℕ) (ns : List ℕ) → broker_others table n ns ≡ from_others table n ns
unfolding broker_others from_others
others_alike table n [] = refl
others_alike table n (m ∷ ms) = ap (λ fs. cond (m == n) fs (table m ++ fs)) (others_alike table n ms)

pub announces_alike : (own : List Subscriber) (table : ℕ → List Filter) (ns : List ℕ) (n : ℕ) → broker_announces own table ns n ≡ to_announce own table ns n
unfolding broker_announces to_announce
announces_alike own table ns n = ap (λ fs. maximal (filters_of own ++ fs)) (others_alike table n ns)

module _ (o : Opening) (memory : List ℕ) (b : ℕ) (ready : Ready o memory b) (n : ℕ) (beside : edge (tree o) b n ≡ true) where
  -- all that the broker knows but from n fits a table
  pub known_fits :
      length (filters_of ((network_of o memory).subscribers b) ++ from_others ((network_of o memory).learned b) n (neighbours (tree o) b))
      ≤ filters_room o
  known_fits =
      let s = network_of o memory in
      let own = filters_of (s.subscribers b) in
      let more = from_others (s.learned b) n (neighbours (tree o) b) in
      let back = edge_sym (tree o) n b ∙ beside in
      let p = length-append own more in
      let q = length_filters (s.subscribers b) in
      let k = (ready.formed.subscribers b ready.there).fits in
      let r = room (tree o) (tree_hung o) o.subscribers n b back (s.learned b) ready.bounded in
      let f = behind_fewer (tree o) (tree_hung o) n b back in
      let m = mul-le-mul_left (suc o.subscribers) f in
      let e = tree_length o in
      let x : suc o.subscribers * length (tree o) ≡ (o.brokers - 1) * (o.subscribers + 1) = rw (e, add-one) (mul_comm (suc o.subscribers) (o.brokers - 1)) in
      omega arith

  pub announcement_fits : length (announcement (tree o) (network_of o memory) b n) ≤ filters_room o
  unfolding to_announce
  announcement_fits =
      let own = filters_of ((network_of o memory).subscribers b) in
      let more = from_others ((network_of o memory).learned b) n (neighbours (tree o) b) in
      let l = length_maximal (own ++ more) in
      let k = known_fits in
      omega arith

  pub announcement_wide : Wide (2 * o.ranges) (announcement (tree o) (network_of o memory) b n)
  unfolding to_announce
  announcement_wide =
      let s = network_of o memory in
      let own = filters_of (s.subscribers b) in
      let more = from_others (s.learned b) n (neighbours (tree o) b) in
      wide_maximal (2 * o.ranges) (own ++ more)
      (wide_append (2 * o.ranges) own more (wide_filters (2 * o.ranges) (s.subscribers b) (ready.formed.subscribers b ready.there).wide)
      (λ f h.
      let (m, j, ne, k) = from_others_find f (s.learned b) n (neighbours (tree o) b) h in
      let e = sym (neighbours_edge (tree o) b m (edge_within (tree o) b n (tree_hung o) beside).0) ∙ j in
      (ready.formed.learned m b (edge_sym (tree o) m b ∙ e)).wide f k))
