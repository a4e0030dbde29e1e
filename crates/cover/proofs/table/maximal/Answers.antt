use Rattle.std.proofs.Common.{◌+◌, ◌*◌, ◌≤◌, length, ap, ◌∙◌}
use Rattle.cover.specs.Table.{inserted_all}
use Rattle.cover.specs.Rows.{listed}
use Rattle.cover.proofs.RowLaws.{length_rows}
use Rattle.cover.proofs.TableLaws.{wide_rows, inserted_all_none}
use Rattle.cover.proofs.table.maximal.Goals as goal

pub returns : goal.returns
returns c =
    let e = c.fill.ensures.after (λ y e. e) in
    let l = length_rows c.args.list.width c.args.list.left c.args.list.words.now in
    let b : 1 + c.args.list.width * length (listed c.args.list) ≤ length c.args.table.now = rw l c.requires.room in
    c.insert_all.ensures
    ∙ (ap (inserted_all c.args.list.width (listed c.args.list)) e
    ∙ inserted_all_none c.args.list.width (length c.args.table.now) (listed c.args.list) (wide_rows c.args.list.width c.args.list.left c.args.list.words.now c.args.list.there) b)
