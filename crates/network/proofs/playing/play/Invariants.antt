use Rattle.network.proofs.Played.{Playing}
use Rattle.network.proofs.playing.play.Given as goal

abbrev pub invariant-loop-command : goal.invariant-loop-command
invariant-loop-command l = Playing l.opening l.list l.memory l.many l.command-index
