use Rattle.cover.proofs.TableLaws.{held_part}
use Rattle.cover.proofs.rows.Rows.counted.Goals as goal

pub returns-clause-rows : goal.returns-clause-rows
returns-clause-rows c = held_part c.args.width c.args.part.now
