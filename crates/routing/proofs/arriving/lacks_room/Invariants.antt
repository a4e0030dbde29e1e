use Rattle.std.proofs.Common.{◌≡◌, ℕ, List, [], ◌∷◌, drop}
use Rattle.model.specs.Model.{notice}
use Rattle.layout.specs.State.{network_of}
use Rattle.routing.specs.Rooms.{full}
use Rattle.routing.proofs.arriving.lacks_room.Given as goal

-- those that are left give the answer
abbrev pub invariant-loop-n : goal.invariant-loop-n
invariant-loop-n l =
    (k : ℕ) (e : List ℕ) →
    full l.opening.messages ((network_of l.opening l.memory).channel l.broker) (λ n. notice k e ∷ []) (drop l.n-index l.to)
    ≡ full l.opening.messages ((network_of l.opening l.memory).channel l.broker) (λ n. notice k e ∷ []) l.to
