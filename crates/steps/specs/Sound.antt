-- What every network made by opening and commands has in memory, and what a command leaves there.
use Rattle.std.specs.Prelude.{◌≡◌, ℕ, List, Err, Result}
use Rattle.model.specs.Invariant.{Invariant}
use Rattle.layout.specs.Parts.{tree}
use Rattle.layout.specs.State.{network_of, Formed}
use Rattle.steps.specs.Rules.{after, answer_to}
use Rattle.layout.specs.declared.opening.Opening.{Opening}
use Rattle.layout.specs.declared.command.Command.{Command}
use Rattle.layout.specs.declared.refusal.Refusal.{Refusal}

-- the memory holds a network, word for word, of which all holds that holds after every list of commands
pub record Sound (o : Opening) (memory : List ℕ) : Type 0 where
  pub formed : Formed o memory
  pub invariant : Invariant (tree o) o.subscribers (network_of o memory)

-- the command was answered by the rules, and the network in memory afterwards is the model's step of the one before; a refused command has left
-- every word as it was
pub record Performed (o : Opening) (memory : List ℕ) (d : Command) (r : Result ℕ Refusal) (memory₁ : List ℕ) : Type 0 where
  pub answer : r ≡ answer_to o (network_of o memory) d
  pub network : network_of o memory₁ ≡ after o (network_of o memory) d
  pub sound : Sound o memory₁
  pub refused : (e : Refusal) → r ≡ Err e → memory₁ ≡ memory
