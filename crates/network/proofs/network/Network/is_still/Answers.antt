use Rattle.steps.proofs.Hanging.{hung_beside}
use Rattle.network.proofs.network.Network.is_still.Goals as goal

pub under_way-requires : goal.under_way-requires
under_way-requires c = rw c.from-up.ensures (hung_beside c.args.self.now.opening c.args.b c.requires.0 c.requires.1).0

pub under_way-requires-then-under_way-eq0 : goal.under_way-requires-then-under_way-eq0
under_way-requires-then-under_way-eq0 c = rw c.from-up.ensures (hung_beside c.args.self.now.opening c.args.b c.requires.0 c.requires.1).1
