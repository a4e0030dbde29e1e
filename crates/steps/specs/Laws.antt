-- What holds of the rules, held against the model.
use Rattle.std.specs.Prelude.{◌≡◌, true, false, Some, None}
use Rattle.model.specs.Model.{Network, allowed}
use Rattle.layout.specs.Parts.{tree}
use Rattle.steps.specs.Rules.{command_of, refusal_of}
use Rattle.layout.specs.declared.opening.Opening.{Opening}
use Rattle.layout.specs.declared.command.Command.{Command}
use Rattle.layout.specs.declared.refusal.Refusal.{Refusal}

-- a command that no rule refuses is one that the model does, so a command that the model cannot do is refused
pub record RulesAllow : Type 0 where
  pub done : (o : Opening) (s : Network) (d : Command) → refusal_of o s d ≡ None → allowed (tree o) s (command_of o d) ≡ true
  pub refused : (o : Opening) (s : Network) (d : Command) → allowed (tree o) s (command_of o d) ≡ false → (e : Refusal) × (refusal_of o s d ≡ Some e)
