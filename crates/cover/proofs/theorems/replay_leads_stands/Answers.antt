use Rattle.cover.proofs.Changes.{replay, replay_puts, replay_takes}
use Rattle.cover.proofs.theorems.replay_leads_stands.Goals as goal

pub returns : goal.returns
returns c = λ old new p q. record { arrives = replay old new p q; putting = λ done rest e. replay_puts old new done rest p e; taking = λ done rest e. replay_takes old new done rest p e }
