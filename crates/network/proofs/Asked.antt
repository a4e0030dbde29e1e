-- What is read of a network's memory.
use Rattle.std.proofs.Common.{◌≡◌, ℕ, ◌+◌, ◌<◌, List, sym, subst, arith}
use Rattle.std.specs.List.{between}
use Rattle.layout.specs.Plan.{many_of, size_of, start_of}
use Rattle.layout.specs.Parts.{plan_of}
use Rattle.layout.specs.Logs.{Delivers}
use Rattle.layout.specs.State.{network_of, Formed}
use Rattle.layout.specs.declared.opening.Opening.{Opening}
use Rattle.layout.proofs.Written.{lent_part}

-- there is one part for the deliveries, of so many words
pub deliveries_one : (o : Opening) → 0 < many_of (plan_of o) 6
unfolding many_of
deliveries_one o = omega arith

pub deliveries_lent : (o : Opening) (memory : List ℕ) → Formed o memory → (at stop : ℕ) → at ≡ start_of (plan_of o) 6 0 → stop ≡ start_of (plan_of o) 6 0 + size_of (plan_of o) 6 →
    Delivers (network_of o memory).deliveries (between at stop memory)
deliveries_lent o memory h at stop p q =
    let e = lent_part (plan_of o) 6 0 at stop memory p q in
    subst (Delivers (network_of o memory).deliveries) (sym e) h.deliveries
