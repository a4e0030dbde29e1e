use Rattle.std.proofs.Common.{rules, refl, sym, ◌∙◌}
use borrow.Author.Tests.{tests}
use Rattle.std.proofs.lemmas.Iterator.Search.{any_from_yields_List}
use Rattle.std.proofs.lemmas.Iterator.Consumers.{YieldsList-from_first}
use Rattle.filter.specs.Filter.{covers}
use Rattle.cover.specs.Rows.{listed}
use Rattle.cover.proofs.RowLaws.{covers_any}
use Rattle.cover.proofs.rows.Rows.covers.Goals as goal

pub returns : goal.returns
returns c =
    any_from_yields_List (λ g. covers g c.args.f.now) c.any.new.self _ c.any.result c.any.ensures.ran (YieldsList-from_first (λ x. x.now) listed (listed c.args.self) refl) (λ x b q k. search (rules, tests))
    ∙ sym (covers_any (listed c.args.self) c.args.f.now)
