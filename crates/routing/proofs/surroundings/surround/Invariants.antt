use Rattle.std.proofs.Common.{◌≡◌, ◌≤◌, map, length, take}
use Rattle.std.specs.List.{AllByRecursion}
use Rattle.broker.specs.Announcing.{Keeps}
use Rattle.model.specs.Tree.{neighbours}
use Rattle.layout.specs.Parts.{tree, filters_room}
use Rattle.layout.specs.State.{network_of}
use Rattle.routing.proofs.surroundings.surround.Given as goal

-- the first of those beside the broker were found, each with its table
abbrev pub invariant-loop-neighbour : goal.invariant-loop-neighbour
invariant-loop-neighbour l =
    (map (λ n. n.broker) l.around.items ≡ take l.neighbour-index (neighbours (tree l.opening) l.broker))
    × (AllByRecursion (λ n. Keeps (filters_room l.opening) l.opening.ranges ((network_of l.opening l.memory).learned l.broker n.broker) n.learned.now) l.around.items)
    × (length l.around.items ≤ l.neighbour-index)
