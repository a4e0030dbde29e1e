-- A cleared memory holds the empty network.
use Rattle.std.proofs.Common.{◌≡◌, ℕ, ◌≤◌, List, length, replicate, sym, subst}
use mathlib.Core.Logic.{∥∥₁_elim}
use Rattle.model.specs.Model.{empty}
use Rattle.model.specs.Invariant.{Invariant}
use Rattle.model.proofs.Invariants.{empty_invariant}
use Rattle.layout.specs.Plan.{words_of}
use Rattle.layout.specs.Parts.{tree, plan_of}
use Rattle.layout.specs.State.{network_of}
use Rattle.steps.specs.Sound.{Sound}
use Rattle.layout.specs.declared.opening.Opening.{Opening}
use Rattle.network.specs.declared.network.Network.{Network}
use Rattle.layout.proofs.Encoded.{reads, formed, cleared_encodes}
use Rattle.steps.proofs.Performing.{sound_prop}
use Rattle.layout.proofs.Written.{tree_hung}

module _ (o : Opening) (memory : List ℕ) (enough : words_of (plan_of o) ≤ length memory) (cleared : memory ≡ replicate (length memory) 0) where
  pub opened_empty : network_of o memory ≡ empty
  opened_empty = reads o memory empty (cleared_encodes o memory enough cleared)

  pub opened_sound : Sound o memory
  opened_sound =
      record {
        formed = formed o memory empty (cleared_encodes o memory enough cleared);
        invariant = subst (Invariant (tree o) o.subscribers) (sym opened_empty) (empty_invariant (tree o) (tree_hung o) o.subscribers);
      }

-- what stands in the type of every network
pub network_sound : (n : Network) → Sound n.opening n.memory.now
network_sound n = ∥∥₁_elim n.sound (sound_prop n.opening n.memory.now) (λ s. s)
