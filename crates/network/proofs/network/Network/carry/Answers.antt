use Rattle.network.proofs.Opened.{network_sound}
use Rattle.network.proofs.network.Network.carry.Goals as goal

pub carry-requires : goal.carry-requires
carry-requires c = network_sound c.args.self.now

pub invariant_of-self : goal.invariant_of-self
invariant_of-self c = record { sound = ∣ c.carry.ensures.sound ∣₁ }
