use Rattle.broker.proofs.Gathered.{Gathered}
use Rattle.broker.proofs.announcing.to_announce.Given as goal

abbrev pub invariant-loop-neighbour : goal.invariant-loop-neighbour
invariant-loop-neighbour l = Gathered l.m l.own l.neighbours l.but l.out l.neighbour-index
