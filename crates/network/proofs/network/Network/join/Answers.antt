use Rattle.network.proofs.Opened.{network_sound}
use Rattle.network.proofs.network.Network.join.Goals as goal

pub join-requires : goal.join-requires
join-requires c = network_sound c.args.self.now

pub invariant_of-self : goal.invariant_of-self
invariant_of-self c = record { sound = ∣ c.join.ensures.sound ∣₁ }
