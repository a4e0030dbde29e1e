use Rattle.std.proofs.Common.{true, false, sym, ap, ◌∙◌}
use Rattle.filter.specs.Filter.{same}
use Rattle.cover.specs.Rows.{listed}
use Rattle.cover.proofs.RowLaws.{length_rows, found_past, found_at}
use Rattle.cover.proofs.rows.Rows.search.Goals as goal

pub returns-in_default : goal.returns-in_default
returns-in_default c =
    sym (found_past c.args.f.now (listed c.args.self) c.args.self.left (length_rows c.args.self.width c.args.self.left c.args.self.words.now) c.in_default.ensures)

pub returns-in-Some-get : goal.returns-in-Some-get
returns-in-Some-get c =
    sym (found_at c.args.f.now (listed c.args.self) c.in-Some.at c.args.self.left true (length_rows c.args.self.width c.args.self.left c.args.self.words.now) c.in-Some.ensures
    (c.if-same.ensures ∙ ap (same c.args.f.now) c.in-Some-get.ensures.1))

pub returns-in_default-get : goal.returns-in_default-get
returns-in_default-get c =
    sym (found_at c.args.f.now (listed c.args.self) c.in-Some.at c.args.self.left false (length_rows c.args.self.width c.args.self.left c.args.self.words.now) c.in-Some.ensures
    (c.if-same.ensures ∙ ap (same c.args.f.now) c.in-Some-get.ensures.1))
