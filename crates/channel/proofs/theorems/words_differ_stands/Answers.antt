use Rattle.channel.proofs.Words.{words_differ}
use Rattle.channel.proofs.theorems.words_differ_stands.Goals as goal

pub returns : goal.returns
returns c = words_differ
