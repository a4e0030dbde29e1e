-- Parts of a formed memory that are lent by where they begin and stop: what they hold.
use Rattle.std.proofs.Common.{◌≡◌, ℕ, ◌+◌, ◌<◌, true, List}
use Rattle.std.specs.List.{between}
use Rattle.broker.specs.Subscribers.{Holds, Whole, subscribers}
use Rattle.broker.specs.Announcing.{Keeps}
use Rattle.broker.proofs.Part.{subscribers_held, shape_held, shape_whole}
use Rattle.model.specs.Tree.{edge}
use Rattle.layout.specs.Links.{link}
use Rattle.layout.specs.Plan.{many_of, size_of, start_of}
use Rattle.layout.specs.Parts.{tree, plan_of, filters_room}
use Rattle.layout.specs.State.{network_of, Formed}
use Rattle.layout.specs.declared.opening.Opening.{Opening}
use Rattle.layout.proofs.Written.{lent_part, link_within_o}

-- the table of what was learned from a broker beside is a part of the memory
pub link_learned : (o : Opening) (a b l : ℕ) → edge (tree o) a b ≡ true → l ≡ link a b → l < many_of (plan_of o) 3
unfolding many_of
link_learned o a b l e p = rw p (link_within_o o a b e)

module _ (o : Opening) (memory : List ℕ) (h : Formed o memory) where
  -- the part of a broker's subscribers
  module _ (b at stop : ℕ) (there : b < o.brokers) (q : at ≡ start_of (plan_of o) 0 b) (r : stop ≡ start_of (plan_of o) 0 b + size_of (plan_of o) 0) where
    pub lent_subscribers : Holds o.subscribers o.ranges ((network_of o memory).subscribers b) (between at stop memory)
    lent_subscribers =
        let x = lent_part (plan_of o) 0 b at stop memory q r in
        rw x (h.subscribers b there)

    pub subscribers_there : subscribers o.ranges (between at stop memory) ≡ (network_of o memory).subscribers b
    subscribers_there = subscribers_held o.subscribers o.ranges ((network_of o memory).subscribers b) (between at stop memory) lent_subscribers

    pub subscribers_whole : Whole o.ranges (between at stop memory)
    subscribers_whole =
        shape_whole o.subscribers o.ranges (between at stop memory)
        (shape_held o.subscribers o.ranges ((network_of o memory).subscribers b) (between at stop memory) lent_subscribers)

  -- the table of what b has learned from a
  pub lent_learned : (a b : ℕ) → edge (tree o) a b ≡ true → (l at stop : ℕ) → l ≡ link a b → at ≡ start_of (plan_of o) 3 l →
      stop ≡ start_of (plan_of o) 3 l + size_of (plan_of o) 3 → Keeps (filters_room o) o.ranges ((network_of o memory).learned b a) (between at stop memory)
  lent_learned a b e l at stop p q r =
      let x = lent_part (plan_of o) 3 l at stop memory q r in
      rw (x, p) (h.learned a b e)
