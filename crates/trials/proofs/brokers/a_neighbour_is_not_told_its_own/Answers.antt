use Rattle.std.proofs.Common.{lit≤}
use Rattle.cover.specs.Table.{held, rows}
use Rattle.broker.specs.Subscribers.{subscribers, filters_of}
use Rattle.broker.specs.Announcing.{others}
use Rattle.trials.proofs.brokers.a_neighbour_is_not_told_its_own.Goals as goal

pub to_announce-requires-clause-room : goal.to_announce-requires-clause-room
unfolding subscribers filters_of others held rows
to_announce-requires-clause-room g c = lit≤ tt
