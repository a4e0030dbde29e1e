-- The oldest message is taken off a channel: the memory then holds the network with the others under way.
use Rattle.std.proofs.Common.{◌≡◌, ℕ, ◌+◌, ◌-◌, ◌*◌, true, List, ◌∷◌, map, length, get_or, subst}
use borrow.Rule.Slice.PartMut.{put_mid}
use Rattle.std.specs.List.{between}
use Rattle.channel.specs.Ring.{Row, Holds, next}
use Rattle.model.specs.Tree.{edge}
use Rattle.model.specs.Model.{Message}
use Rattle.layout.specs.Links.{link}
use Rattle.layout.specs.Plan.{size_of, start_of}
use Rattle.layout.specs.Parts.{tree, plan_of}
use Rattle.layout.specs.Mail.{row_for, Carries}
use Rattle.layout.specs.State.{network_of, Encodes, Formed}
use Rattle.layout.specs.Changed.{with_channel}
use Rattle.layout.specs.declared.opening.Opening.{Opening}
use Rattle.layout.proofs.Carried.{carries_less}
use Rattle.routing.proofs.Sendings.{lent_channel}
use Rattle.layout.proofs.Written.{lent, put_channel}

-- the l-th channel is lent from `at` to `stop`
module _ (o : Opening) (memory : List ℕ) (h : Formed o memory) (a b : ℕ) (e : edge (tree o) a b ≡ true) (l at stop : ℕ) (p : l ≡ link a b)
    (q : at ≡ start_of (plan_of o) 4 l) (r : stop ≡ start_of (plan_of o) 4 l + size_of (plan_of o) 4) where
  pub taken_off : (new : List ℕ) →
      ((begin : ℕ) (x : Row) (xs : List Row) → Holds o.messages (2 + 2 * o.ranges) begin (x ∷ xs) (between at stop memory) →
      Holds o.messages (2 + 2 * o.ranges) (next o.messages begin (length xs + 1)) xs new) →
      (x : Message) (ms : List Message) → (network_of o memory).channel a b ≡ x ∷ ms →
      Encodes o (put_mid at (stop - at) memory new) (with_channel (network_of o memory) a b ms)
  taken_off new holds x ms is =
      let c : Carries o.messages o.ranges (x ∷ ms) (between at stop memory) =
      subst (λ xs. Carries o.messages o.ranges xs (between at stop memory)) is (lent_channel o memory h a b e l at stop p q r) in
      let k = holds (get_or (between at stop memory) 0 0) (row_for o.ranges x) (map (row_for o.ranges) ms) c.rows in
      let d = carries_less o.messages o.ranges x ms (between at stop memory) new _ c k in
      let y = lent (plan_of o) 4 l at stop memory new q r in
      rw (y, p) (put_channel o memory (network_of o memory) h a b e ms new d)
