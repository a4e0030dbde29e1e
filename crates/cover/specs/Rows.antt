-- The filters that are left of rows in words.
use Rattle.std.specs.Prelude.{List}
use Rattle.filter.specs.Filter.{Filter}
use Rattle.cover.specs.Table.{rows}
use Rattle.cover.specs.declared.rows.Rows.{Rows}

abbrev pub listed : Rows → List Filter
listed r = rows r.width r.left r.words.now
