use Rattle.network.proofs.Knowing.{next_beside}
use Rattle.network.proofs.network.Network.is_known_at.Goals as goal

pub lasts-requires-clause-beside : goal.lasts-requires-clause-beside
lasts-requires-clause-beside c = next_beside c.args.self.now.opening c.args.broker c.args.b c.towards.result c.requires.there.0 c.requires.there.1 c.if-b-broker.false c.towards.ensures
