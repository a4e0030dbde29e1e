use Rattle.std.proofs.Common.{◌<◌, ◌≤◌, [], length, get_or, ap, ◌∙◌, arith, rules}
use Rattle.filter.specs.Filter.{padded}
use Rattle.layout.specs.State.{network_of}
use Rattle.broker.proofs.Kept.{count_kept, held_kept}
use Rattle.routing.proofs.Compared.{kept_whole}
use Rattle.network.proofs.Opened.{network_sound}
use Rattle.network.proofs.network.Network.learned.Goals as goal

pub returns-in_err-a : goal.returns-in_err-a
returns-in_err-a c =
    let f = (network_sound c.args.self.now).formed in
    search rules

pub counted-requires : goal.counted-requires
counted-requires c = kept_whole _ _ _ _ c.table.ensures

pub returns-in_err-filter : goal.returns-in_err-filter
returns-in_err-filter c =
    let n = c.args.self.now in
    let p = c.in_ok-a.ensures in
    let l : length ((network_of n.opening n.memory.now).learned c.in_ok-a.b c.in_ok-a.a) ≤ c.args.i =
    omega (arith, count_kept _ _ _ _ c.table.ensures, c.counted.ensures.count, c.in_err-filter.ensures) in
    rw c.from_residual-in_err-filter.ensures (rw (p.0, p.1) at l)

pub returns : goal.returns
returns c =
    let n = c.args.self.now in
    let p = c.in_ok-a.ensures in
    let l : c.args.i < length ((network_of n.opening n.memory.now).learned c.in_ok-a.b c.in_ok-a.a) =
    omega (arith, count_kept _ _ _ _ c.table.ensures, c.counted.ensures.count, c.in_ok-filter.ensures.0) in
    let b = c.in_ok-filter.ensures.1 ∙ ap (λ fs. get_or fs c.args.i []) (c.counted.ensures.rows ∙ held_kept _ _ _ _ c.table.ensures) in
    (rw (p.0, p.1) at l, c.new.ensures ∙ ap (padded 16) (rw (p.0, p.1) at b))
