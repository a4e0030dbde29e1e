use Rattle.std.proofs.Common.{refl}
use Rattle.network.proofs.Opened.{network_sound}
use Rattle.network.proofs.Promising.{promised_after}
use Rattle.network.proofs.network.Network.post.Goals as goal

pub post-requires : goal.post-requires
post-requires c = network_sound c.args.self.now

pub invariant_of-self : goal.invariant_of-self
invariant_of-self c = record { sound = ∣ c.post.ensures.sound ∣₁ }

pub returns : goal.returns
returns c =
    let n = c.args.self.now in
    record {
      done = c.post.ensures;
      promised = λ r. promised_after n.opening n.memory.now (network_sound n) c.args.broker c.args.number c.args.notice _ r c.post.ensures.network;
      same = refl;
      opening = refl;
    }
