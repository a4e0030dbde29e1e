-- Commands played one after the other.
use Rattle.std.proofs.Common.{◌≡◌, ℕ, ◌+◌, ◌<◌, ◌≤◌, true, false, List, length, get_or, drop, Some, None, Option, Result, refl, sym, ap, ◌∙◌, arith}
use Rattle.std.specs.Result.{is_ok}
use Rattle.std.proofs.lemmas.Bool.{both_ways}
use Rattle.std.proofs.lemmas.List.{drop_more, drop_all}
use Rattle.model.specs.Model.{empty}
use Rattle.layout.specs.State.{network_of}
use Rattle.routing.specs.Rooms.{ok_unless}
use Rattle.steps.specs.Rules.{command_of, refusal_of, answer_to}
use Rattle.steps.specs.Sound.{Sound, Performed}
use Rattle.network.specs.Promised.{played, kept_if, done, KeptPromises}
use Rattle.layout.specs.declared.opening.Opening.{Opening}
use Rattle.layout.specs.declared.command.Command.{Command}
use Rattle.layout.specs.declared.refusal.Refusal.{Refusal}
use Rattle.network.proofs.Promising.{kept_promises}

-- what an answer says of the refusal
answer_refused : (q : Option Refusal) (n : ℕ) → is_ok (ok_unless q n) ≡ false → (e : Refusal) × (q ≡ Some e)
answer_refused None n h = absurd (both_ways true h refl)
answer_refused (Some r) n h = (r, refl)

answer_done : (q : Option Refusal) (n : ℕ) → is_ok (ok_unless q n) ≡ true → q ≡ None
answer_done None n h = refl
answer_done (Some r) n h = absurd (both_ways false refl h)

-- the first i commands of the list are played, and so many of them were done
pub record Playing (o : Opening) (list : List Command) (memory : List ℕ) (many i : ℕ) : Type 0 where
  pub sound : Sound o memory
  pub left : played o (network_of o memory) (drop i list) ≡ played o empty list
  pub counted : many + length (done o (network_of o memory) (drop i list)) ≡ length (done o empty list)
  pub few : many ≤ i

pub playing_none : (o : Opening) (list : List Command) (memory : List ℕ) → Sound o memory → network_of o memory ≡ empty → Playing o list memory 0 0
playing_none o list memory h e =
    record { sound = h; left = ap (λ s. played o s list) e; counted = ap (λ s. 0 + length (done o s list)) e ∙ omega arith; few = omega arith }

module _ (o : Opening) (list : List Command) (memory : List ℕ) (many i : ℕ) (h : Playing o list memory many i) (l : i < length list) (d : Command)
    (r : Result ℕ Refusal) (memory₁ : List ℕ) (p : Performed o memory (get_or list i d) r memory₁) where
  rest : played o (network_of o memory₁) (drop (i + 1) list) ≡ played o empty list
  unfolding played
  rest =
      let e = drop_more list i d l in
      ap (λ s. played o s (drop (i + 1) list)) p.network ∙ (ap (played o (network_of o memory)) (sym e) ∙ h.left)

  first_done : length (done o (network_of o memory) (drop i list)) ≡ length (kept_if (refusal_of o (network_of o memory) (get_or list i d)) (command_of o (get_or list i d)) (done o (network_of o memory₁) (drop (i + 1) list)))
  unfolding done
  first_done =
      let e = drop_more list i d l in
      ap (λ ds. length (done o (network_of o memory) ds)) e
      ∙ ap (λ s. length (kept_if (refusal_of o (network_of o memory) (get_or list i d)) (command_of o (get_or list i d)) (done o s (drop (i + 1) list)))) (sym p.network)

  pub playing_done : is_ok r ≡ true → Playing o list memory₁ (many + 1) (i + 1)
  unfolding answer_to
  playing_done e =
      let q = answer_done _ _ (ap is_ok (sym p.answer) ∙ e) in
      let f = first_done ∙ ap (λ x. length (kept_if x (command_of o (get_or list i d)) (done o (network_of o memory₁) (drop (i + 1) list)))) q in
      record { sound = p.sound; left = rest; counted = omega (arith, f, h.counted); few = omega (arith, h.few) }

  pub playing_refused : is_ok r ≡ false → Playing o list memory₁ many (i + 1)
  unfolding answer_to
  playing_refused e =
      let q = (answer_refused _ _ (ap is_ok (sym p.answer) ∙ e)).1 in
      let f = first_done ∙ ap (λ y. length (kept_if y (command_of o (get_or list i d)) (done o (network_of o memory₁) (drop (i + 1) list)))) q in
      record { sound = p.sound; left = rest; counted = omega (arith, f, h.counted); few = omega (arith, h.few) }

pub playing_all : (o : Opening) (list : List Command) (memory : List ℕ) (many i : ℕ) → Playing o list memory many i → length list ≤ i → KeptPromises o list many (network_of o memory)
unfolding played done
playing_all o list memory many i h l =
    let e = drop_all i list l in
    let f = ap (λ ds. length (done o (network_of o memory) ds)) e in
    kept_promises o list many (network_of o memory) (ap (played o (network_of o memory)) (sym e) ∙ h.left) (omega (arith, f, h.counted))
