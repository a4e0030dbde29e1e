use Rattle.std.proofs.Common.{rules, inl, ◌∙◌, arith}
use borrow.Author.Tests.{tests}
use Rattle.std.proofs.lemmas.Iterator.Search.{position_from_yields_List}
use Rattle.std.proofs.lemmas.Iterator.Consumers.{YieldsList-from_first}
use Rattle.cover.specs.Rows.{listed}
use Rattle.cover.proofs.RowLaws.{length_rows}
use Rattle.broker.specs.Subscribers.{has_number}
use Rattle.broker.proofs.Slots.{number_at}
use Rattle.broker.proofs.subscribers.find.Goals as goal

pub position-requires-clause-fits : goal.position-requires-clause-fits
position-requires-clause-fits c = inl (omega (arith, length_rows c.counted.result.width c.counted.result.left c.counted.result.words.now))

pub returns : goal.returns
returns c =
    position_from_yields_List (has_number c.args.number) c.position.new.self _ c.position.result c.position.ensures.ran (YieldsList-from_first (λ x. x.now) listed _ c.counted.ensures.rows) (λ x b q k. search (rules, tests))
    ∙ number_at c.args.number c.args.m c.args.part.now c.requires.1
