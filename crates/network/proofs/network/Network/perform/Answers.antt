use Rattle.network.proofs.Opened.{network_sound}
use Rattle.network.proofs.network.Network.perform.Goals as goal

pub perform-requires : goal.perform-requires
perform-requires c = network_sound c.args.self.now

pub invariant_of-self : goal.invariant_of-self
invariant_of-self c = record { sound = ∣ c.perform.ensures.sound ∣₁ }
