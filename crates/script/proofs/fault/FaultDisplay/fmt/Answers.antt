use Rattle.script.proofs.fault.FaultDisplay.fmt.Goals as goal

pub returns-in-Unknown-clause-writes : goal.returns-in-Unknown-clause-writes
returns-in-Unknown-clause-writes g c = simp c.in-Unknown.is c.write-in-Unknown.ensures.writes
