-- The rules refuse every command that the model cannot do.
use Rattle.std.proofs.Common.{◌≡◌, ℕ, ◌-◌, ◌*◌, ◌≤◌, Bool, true, false, not, ltb, leb, List, [], ◌∷◌, length, take, Some, None, Option, sym, refl, ◌∙◌, arith}
use Rattle.std.proofs.lemmas.Bool.{and_from, not-false, not_from_false, ltb-true, le-leb}
use Rattle.model.specs.Tree.{neighbours, has}
use Rattle.model.specs.Model.{Network, allowed, known, known_up_to, dropped, with_subscribers}
use Rattle.layout.specs.Parts.{tree}
use Rattle.layout.proofs.Written.{tree_length}
use Rattle.routing.specs.Rooms.{first, when, no_room_to_tell, no_room_to_pass, no_room_to_deliver}
use Rattle.steps.specs.Rules.{command_of, too_large, joined, receiving, refusal_of}
use Rattle.layout.specs.declared.opening.Opening.{Opening}
use Rattle.layout.specs.declared.command.Command.{Command}
use Rattle.layout.specs.declared.command.Command.TheVariants.{Join, Leave, Post, Carry}
use Rattle.layout.specs.declared.refusal.Refusal.{Refusal}
use Rattle.layout.specs.declared.refusal.Refusal.TheVariants.{NoSuchBroker, NotBeside, NumberUsed, NotSubscribed, BrokerFull, NoticeUsed, TooManyNotices}

-- of rules none of which applies, the first three do not
passed : (a : Option Refusal) (x y : Bool) (p q : Refusal) (rest : List (Option Refusal)) → first (a ∷ when (not x) p ∷ when y q ∷ rest) ≡ None → (a ≡ None) × (x ≡ true) × (y ≡ false)
passed (Some r) x y p q rest h =
    let z : ◌≡◌ {A = ℕ} 0 1 = cc in
    absurd (omega arith)
passed None false y p q rest h =
    let z : ◌≡◌ {A = ℕ} 0 1 = cc in
    absurd (omega arith)
passed None true true p q rest h =
    let z : ◌≡◌ {A = ℕ} 0 1 = cc in
    absurd (omega arith)
passed None true false p q rest h = (refl, refl, refl)

-- what a rule asks for is there where the rule does not apply
holds : (x : Bool) (p : Refusal) → when (not x) p ≡ None → x ≡ true
holds true p h = refl
holds false p h =
    let z : ◌≡◌ {A = ℕ} 0 1 = cc in
    absurd (omega arith)

-- the tree has one broker more than it has edges
within : (o : Opening) (b : ℕ) → ltb b o.brokers ≡ true → leb b (length (tree o)) ≡ true
within o b h =
    let l = tree_length o in
    let k : b ≤ length (tree o) = omega (arith, ltb-true b o.brokers h) in
    le-leb b (length (tree o)) k

-- a command that no rule refuses can be done
pub unrefused : (o : Opening) (s : Network) (d : Command) → refusal_of o s d ≡ None → allowed (tree o) s (command_of o d) ≡ true
unfolding refusal_of allowed
unrefused o s (Join b n f) h =
    let (i, x, y) = passed (too_large 1 (n ∷ take (2 * o.ranges) f.bounds)) (ltb b o.brokers) (known_up_to n s.subscribers (o.brokers - 1)) (NoSuchBroker b) (NumberUsed n)
    (when (not (ltb (length (s.subscribers b)) o.subscribers)) (BrokerFull o.subscribers) ∷ no_room_to_tell o (with_subscribers s b (joined s b n (take (2 * o.ranges) f.bounds))) b ∷ []) h in
    and_from (leb b (length (tree o))) (not (known_up_to n s.subscribers (length (tree o)))) (within o b x) (simp tree_length (not_from_false (known_up_to n s.subscribers (o.brokers - 1)) y))
unrefused o s (Leave b n) h =
    let (i, x, y) = passed (too_large 1 (n ∷ [])) (ltb b o.brokers) (not (known n (s.subscribers b))) (NoSuchBroker b) (NotSubscribed n)
    (no_room_to_tell o (with_subscribers s b (dropped n (s.subscribers b))) b ∷ []) h in
    and_from (leb b (length (tree o))) (known n (s.subscribers b)) (within o b x) (not-false (known n (s.subscribers b)) y)
unrefused o s (Post b k e) h =
    let (i, x, y) = passed (too_large 1 (k ∷ take o.ranges e.numbers)) (ltb b o.brokers) (has s.posted k) (NoSuchBroker b) (NoticeUsed k)
    (when (not (ltb (length s.posted) 4096)) (TooManyNotices 4096) ∷ no_room_to_pass o s b b k (take o.ranges e.numbers) ∷ no_room_to_deliver s b k (take o.ranges e.numbers) ∷ []) h in
    and_from (leb b (length (tree o))) (not (has s.posted k)) (within o b x) (not_from_false (has s.posted k) y)
unrefused o s (Carry a b) h =
    let (i, x, y) = passed (when (not (ltb a o.brokers)) (NoSuchBroker a)) (ltb b o.brokers) (not (has (neighbours (tree o) a) b)) (NoSuchBroker b) (NotBeside b)
    (receiving o s a b (s.channel a b) ∷ []) h in
    and_from (leb a (length (tree o))) (has (neighbours (tree o) a) b) (within o a (holds (ltb a o.brokers) (NoSuchBroker a) i)) (not-false (has (neighbours (tree o) a) b) y)

-- .. and the other way round
pub refused : (o : Opening) (s : Network) (d : Command) → allowed (tree o) s (command_of o d) ≡ false → (e : Refusal) × (refusal_of o s d ≡ Some e)
refused o s d h = go (refusal_of o s d) refl
  where
    go : (r : Option Refusal) → refusal_of o s d ≡ r → (e : Refusal) × (r ≡ Some e)
    go None i =
        let k = unrefused o s d i in
        let z : true ≡ false = sym k ∙ h in
        let w : ◌≡◌ {A = ℕ} 0 1 = cc in
        absurd (omega arith)
    go (Some e) i = (e, refl)
