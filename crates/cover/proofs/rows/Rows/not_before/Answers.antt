use Rattle.std.proofs.Common.{rules, not, refl, inl, arith}
use borrow.Author.Tests.{tests}
use Rattle.std.proofs.lemmas.Iterator.Search.{position_from_yields_List}
use Rattle.std.proofs.lemmas.Iterator.Consumers.{YieldsList-from_first}
use Rattle.filter.specs.Filter.{before}
use Rattle.cover.specs.Rows.{listed}
use Rattle.cover.proofs.RowLaws.{length_rows, first_at}
use Rattle.cover.proofs.rows.Rows.not_before.Goals as goal

pub position-requires-clause-fits : goal.position-requires-clause-fits
position-requires-clause-fits c = inl (omega (arith, length_rows c.args.self.width c.args.self.left c.args.self.words.now))

pub returns : goal.returns
returns c =
    first_at (λ g. not (before g c.args.f.now)) (listed c.args.self) c.args.self.left c.position.result (length_rows c.args.self.width c.args.self.left c.args.self.words.now)
    (position_from_yields_List (λ g. not (before g c.args.f.now)) c.position.new.self _ c.position.result c.position.ensures.ran (YieldsList-from_first (λ x. x.now) listed (listed c.args.self) refl) (λ x b q k. search (rules, tests)))
