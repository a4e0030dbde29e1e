-- The rules of carrying, opened: between brokers beside each other only the oldest message decides, and what the model does with it.
use Rattle.std.proofs.Common.{◌≡◌, ℕ, ◌≤◌, true, false, eqb, ltb, List, [], ◌∷◌, length, Some, None, refl, ap, ◌∙◌}
use Rattle.std.proofs.lemmas.Bool.{both_ways, lt-ltb, le-leb, ne_eqb}
use Rattle.filter.specs.declared.value.Notice.{Notice as Value}
use Rattle.channel.specs.Message.{words}
use Rattle.channel.specs.declared.message.Message.{Message as Sent}
use Rattle.channel.specs.declared.message.Message.TheVariants.{Add, Cut, Notice as Post}
use Rattle.model.specs.Tree.{Tree, edge, has, neighbours}
use Rattle.model.specs.Model.{Message, add, cut, notice, Network, tell, taken, react, receive, allowed, effect, step, carry}
use Rattle.model.proofs.Tree.{edge_apart, edge_within, neighbours_edge}
use Rattle.model.proofs.Cases.{step_carries}
use Rattle.model.proofs.Cases.{tidings as is_change}
use Rattle.layout.specs.Parts.{tree}
use Rattle.layout.specs.Mail.{message_in}
use Rattle.routing.specs.Rooms.{no_room_to_tell}
use Rattle.steps.specs.Rules.{receiving, refusal_of}
use Rattle.layout.specs.declared.opening.Opening.{Opening}
use Rattle.layout.specs.declared.command.Command.TheVariants.{Carry}
use Rattle.layout.specs.declared.refusal.Refusal.TheVariants.{NoSuchBroker, NotBeside}
use Rattle.routing.proofs.Room.{last_rule}
use Rattle.layout.proofs.Written.{tree_hung, edge_brokers}

-- an add or a cut is one of those that a broker reacts to by telling
pub change_is : (m : ℕ) (x : Sent) → ((n : ℕ) (v : Value) → x ≡ Post n v → ⊥) → is_change (message_in m (words m x)) ≡ true
unfolding is_change
change_is m (Add f) h = refl
change_is m (Cut f) h = refl
change_is m (Post n e) h = absurd (h n e refl)

receiving_change : (o : Opening) (s : Network) (a b : ℕ) (p : Message) (ps : List Message) → is_change p ≡ true → receiving o s a b (p ∷ ps) ≡ no_room_to_tell o (taken s a b p ps) b
unfolding receiving is_change
receiving_change o s a b (add f) ps h = refl
receiving_change o s a b (cut f) ps h = refl
receiving_change o s a b (notice k e) ps h = absurd (both_ways false refl h)

react_change : (t : Tree) (a b : ℕ) (p : Message) (s : Network) → is_change p ≡ true → react t a b p s ≡ tell t b s
unfolding react is_change
react_change t a b (add f) s h = refl
react_change t a b (cut f) s h = refl
react_change t a b (notice k e) s h = absurd (both_ways false refl h)

-- the brokers are there and beside each other, or they are not
module _ (o : Opening) (s : Network) (a b : ℕ) where
  pub carry_no_first : ltb a o.brokers ≡ false → refusal_of o s (Carry a b) ≡ Some (NoSuchBroker a)
  unfolding refusal_of
  carry_no_first x = rw x

  pub carry_no_second : ltb a o.brokers ≡ true → ltb b o.brokers ≡ false → refusal_of o s (Carry a b) ≡ Some (NoSuchBroker b)
  unfolding refusal_of
  carry_no_second x y = rw (x, y)

  pub carry_not_beside : ltb a o.brokers ≡ true → ltb b o.brokers ≡ true → has (neighbours (tree o) a) b ≡ false → refusal_of o s (Carry a b) ≡ Some (NotBeside b)
  unfolding refusal_of
  carry_not_beside x y z = rw (x, y, z)

module _ (o : Opening) (s : Network) (a b : ℕ) (e : edge (tree o) a b ≡ true) where
  pub ends_apart : eqb a b ≡ false
  ends_apart = ne_eqb a b (edge_apart (tree o) (tree_hung o) a b e)

  pub first_within : a ≤ length (tree o)
  first_within = (edge_within (tree o) a b (tree_hung o) e).0

  pub beside_each : has (neighbours (tree o) a) b ≡ true
  beside_each = neighbours_edge (tree o) a b first_within ∙ e

  pub carry_refusal : refusal_of o s (Carry a b) ≡ receiving o s a b (s.channel a b)
  unfolding refusal_of
  carry_refusal =
      let (p, q) = edge_brokers o a b e in
      let x = lt-ltb a o.brokers p in
      let y = lt-ltb b o.brokers q in
      let z = beside_each in
      rw (x, y, z) (last_rule (receiving o s a b (s.channel a b)))

  -- an add or a cut is the oldest
  pub carry_refusal_change : (p : Message) (ps : List Message) → s.channel a b ≡ p ∷ ps → is_change p ≡ true → refusal_of o s (Carry a b) ≡ no_room_to_tell o (taken s a b p ps) b
  carry_refusal_change p ps q h = carry_refusal ∙ ap (receiving o s a b) q ∙ receiving_change o s a b p ps h

  pub carry_step_change : (p : Message) (ps : List Message) → s.channel a b ≡ p ∷ ps → is_change p ≡ true → step (tree o) s (carry a b) ≡ tell (tree o) b (taken s a b p ps)
  carry_step_change p ps q h = step_carries (tree o) s a b p ps first_within beside_each q ∙ react_change (tree o) a b p (taken s a b p ps) h

  -- nothing is under way
  pub carry_refusal_none : s.channel a b ≡ [] → refusal_of o s (Carry a b) ≡ None
  unfolding receiving
  carry_refusal_none q = carry_refusal ∙ ap (receiving o s a b) q

  pub carry_step_none : s.channel a b ≡ [] → step (tree o) s (carry a b) ≡ s
  unfolding step allowed effect receive
  carry_step_none q =
      let x = le-leb a (length (tree o)) first_within in
      let y = beside_each in
      rw (x, y, q)
