use Rattle.network.proofs.Opened.{network_sound}
use Rattle.network.proofs.network.Network.leave.Goals as goal

pub leave-requires : goal.leave-requires
leave-requires c = network_sound c.args.self.now

pub invariant_of-self : goal.invariant_of-self
invariant_of-self c = record { sound = ∣ c.leave.ensures.sound ∣₁ }
