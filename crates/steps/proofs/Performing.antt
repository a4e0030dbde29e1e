-- How a command's contract is closed: what to show of one that is refused, and of one that is done; and that a sound memory is a proposition.
use Rattle.std.proofs.Common.{◌≡◌, ℕ, ◌+◌, ◌-◌, ◌<◌, List, length, IsErrAnd, Some, None, Ok, Err, Option, Result, refl, sym, ap, ◌∙◌, subst, arith}
use Rattle.std.proofs.lemmas.Result.{err_from_is_err_and}
use Rattle.model.specs.Model.{Network, step}
use Rattle.model.specs.Invariant.{Few, Invariant}
use Rattle.model.proofs.Invariants.{step_invariant, invariant_prop}
use Rattle.layout.specs.Parts.{tree}
use Rattle.layout.specs.State.{network_of, Encodes}
use Rattle.routing.specs.Rooms.{ok_unless}
use Rattle.steps.specs.Rules.{command_of, refusal_of, outcome, after, made as made_by, answer_to}
use Rattle.steps.specs.Sound.{Sound, Performed}
use Rattle.layout.specs.declared.opening.Opening.{Opening}
use Rattle.layout.specs.declared.command.Command.{Command}
use Rattle.layout.specs.declared.refusal.Refusal.{Refusal}
use Rattle.layout.proofs.Encoded.{reads, formed, encodes_prop}
use Rattle.layout.proofs.Written.{tree_length, tree_hung}

pub sound_prop : (o : Opening) (memory : List ℕ) → IsProp (Sound o memory)
sound_prop o memory x y = λ i.
    record {
      formed = encodes_prop o memory (network_of o memory) x.formed y.formed i;
      invariant = invariant_prop (tree o) o.subscribers (network_of o memory) x.invariant y.invariant i;
    }

-- a memory that holds a network of which the invariant holds is sound
pub sound_encoded : (o : Opening) (memory : List ℕ) (s : Network) → Encodes o memory s → Invariant (tree o) o.subscribers s → Sound o memory
sound_encoded o memory s e v =
    record {
      formed = formed o memory s e;
      invariant = subst (Invariant (tree o) o.subscribers) (sym (reads o memory s e)) v;
    }

-- what a memory holds has at every broker no more subscribers than there is room for
encoded_few : (o : Opening) (memory : List ℕ) (s : Network) → Encodes o memory s → Few (tree o) o.subscribers s
unfolding Few
encoded_few o memory s e b h =
    let l = tree_length o in
    let v = o.valid.1.0 in
    let p : b < o.brokers = omega arith in
    (e.subscribers b p).fits

pub refused_performed : (o : Opening) (memory : List ℕ) (d : Command) (e : Refusal) → Sound o memory → refusal_of o (network_of o memory) d ≡ Some e →
    (memory₁ : List ℕ) → memory₁ ≡ memory → Performed o memory d (Err e) memory₁
unfolding after answer_to
refused_performed o memory d e h q memory₁ m =
    record {
      answer = sym (ap (λ r. ok_unless r (made_by o (network_of o memory) d)) q);
      network = ap (network_of o) m ∙ sym (ap (λ r. outcome r (step (tree o) (network_of o memory) (command_of o d)) (network_of o memory)) q);
      sound = subst (Sound o) (sym m) h;
      refused = λ f p. m;
    }

pub done_performed : (o : Opening) (memory : List ℕ) (d : Command) (made : ℕ) → Sound o memory → refusal_of o (network_of o memory) d ≡ None →
    (memory₁ : List ℕ) → Encodes o memory₁ (step (tree o) (network_of o memory) (command_of o d)) →
    made + length (network_of o memory).deliveries ≡ length (step (tree o) (network_of o memory) (command_of o d)).deliveries →
    Performed o memory d (Ok made) memory₁
unfolding after answer_to
done_performed o memory d made h q memory₁ e n =
    let u = step (tree o) (network_of o memory) (command_of o d) in
    let done : outcome (refusal_of o (network_of o memory) d) u (network_of o memory) ≡ u = ap (λ r. outcome r u (network_of o memory)) q in
    let many : made ≡ length (outcome (refusal_of o (network_of o memory) d) u (network_of o memory)).deliveries - length (network_of o memory).deliveries =
    (let l = ap (λ s. length s.deliveries) done in omega arith) in
    record {
      answer = ap Ok many ∙ sym (ap (λ r. ok_unless r (made_by o (network_of o memory) d)) q);
      network = reads o memory₁ u e ∙ sym done;
      sound = sound_encoded o memory₁ u e (step_invariant (tree o) (tree_hung o) o.subscribers (network_of o memory) (command_of o d) h.invariant (encoded_few o memory₁ u e));
      refused = λ f p. let z : ◌≡◌ {A = ℕ} 0 1 = cc in absurd (omega arith);
    }

-- what an answer says of the refusal
pub refused_says : {A : Type 0} (q : Option Refusal) (a : A) (e : Refusal) → Err e ≡ ok_unless q a → q ≡ Some e
refused_says None a e h = let z : ◌≡◌ {A = ℕ} 0 1 = cc in absurd (omega arith)
refused_says (Some r) a e h = cc

pub allowed_says : {A : Type 0} (q : Option Refusal) (a x : A) → Ok x ≡ ok_unless q a → q ≡ None
allowed_says None a x h = refl
allowed_says (Some r) a x h = let z : ◌≡◌ {A = ℕ} 0 1 = cc in absurd (omega arith)

-- a refusal that is handed on is the same
pub refused_on : (o : Opening) (memory : List ℕ) (d : Command) (e : Refusal) → Sound o memory → refusal_of o (network_of o memory) d ≡ Some e →
    (memory₁ : List ℕ) → memory₁ ≡ memory → (r : Result ℕ Refusal) → IsErrAnd r (λ y. y ≡ e) → Performed o memory d r memory₁
refused_on o memory d e h q memory₁ m r p =
    let (y, is, same) = err_from_is_err_and r p in
    subst (λ x. Performed o memory d x memory₁) (sym (is ∙ ap Err same)) (refused_performed o memory d e h q memory₁ m)
