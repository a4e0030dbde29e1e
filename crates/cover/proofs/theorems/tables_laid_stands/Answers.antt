use Rattle.cover.proofs.TableLaws.{changed_laid, inserted_all_laid}
use Rattle.cover.proofs.theorems.tables_laid_stands.Goals as goal

pub returns : goal.returns
returns c = record { change = changed_laid; inserts = inserted_all_laid }
