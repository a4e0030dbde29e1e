use Rattle.script.proofs.Trips.{writes_what_was_read}
use Rattle.script.proofs.writer.writes_what_was_read_stands.Goals as goal

pub returns : goal.returns
returns c = writes_what_was_read
