use Rattle.std.proofs.Common.{rules}
use Rattle.layout.proofs.Carried.{carries_shape}
use Rattle.network.proofs.Opened.{network_sound}
use Rattle.network.proofs.Pieces.{piece_read}
use Rattle.network.proofs.network.Network.message.Goals as goal

pub get-requires : goal.get-requires
get-requires c = (c.args.self.now.opening.valid.0.1, carries_shape _ _ _ _ c.channel.ensures)

pub returns : goal.returns
returns c =
    let o = c.args.self.now.opening in
    let p = c.in_ok-a.ensures in
    rw (p.0, p.1) at (piece_read o.messages o.ranges _ _ c.channel.ensures o.valid.0.1 c.args.i c.get.result (c.get.ensures.holds _ _ c.channel.ensures.rows))

pub returns-in_err-a : goal.returns-in_err-a
returns-in_err-a c =
    let f = (network_sound c.args.self.now).formed in
    search rules
