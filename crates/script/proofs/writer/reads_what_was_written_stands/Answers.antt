use Rattle.script.proofs.Trips.{reads_what_was_written}
use Rattle.script.proofs.writer.reads_what_was_written_stands.Goals as goal

pub returns : goal.returns
returns c = reads_what_was_written
