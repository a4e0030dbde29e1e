use Rattle.std.proofs.Common.{◌≡◌, ◌+◌, ◌*◌, ◌++◌, length, get_or, drop, sym, ap, ◌∙◌, arith}
use Rattle.std.specs.List.{insert}
use Rattle.std.proofs.lemmas.List.{take_rest, length-drop}
use Rattle.cover.specs.Table.{held, stored, found, written}
use Rattle.cover.proofs.RowLaws.{found_ok, found_err}
use Rattle.cover.proofs.TableLaws.{held_part, length_held, stored_same, stored_inserted}
use Rattle.cover.proofs.table.put.Goals as goal

pub open-requires : goal.open-requires
open-requires c =
    let p = found_err c.args.f.now (held (length c.args.f.now) c.args.table.now) c.in-Err.at (sym c.in-Err.is ∙ (c.search.ensures ∙ ap (found c.args.f.now) c.counted.ensures.rows)) in
    let l = length_held (length c.args.f.now) c.args.table.now in
    (omega (arith, p.1), simp (take_rest, length-drop) (omega (arith, c.requires.room)))

pub returns-in-Err : goal.returns-in-Err
returns-in-Err c =
    let h = held_part (length c.args.f.now) c.args.table.now in
    let p = found_err c.args.f.now (held (length c.args.f.now) c.args.table.now) c.in-Err.at (sym c.in-Err.is ∙ (c.search.ensures ∙ ap (found c.args.f.now) c.counted.ensures.rows)) in
    let l = length_held (length c.args.f.now) c.args.table.now in
    let y : c.open.new.words ≡ written (insert (held (length c.args.f.now) c.args.table.now) c.in-Err.at c.args.f.now) ++ drop (length c.args.f.now * get_or c.args.table.now 0 0 + length c.args.f.now) (drop 1 c.args.table.now) =
    rw (h, take_rest) at c.open.ensures in
    stored_inserted (length c.args.f.now) c.args.table.now c.open.new.words c.in-Err.at c.args.f.now (omega arith) (omega (arith, p.1)) y
    ∙ ap (λ fs. stored (length c.args.f.now) fs c.args.table.now) (sym p.0)

pub returns-in_default : goal.returns-in_default
returns-in_default c =
    let p = found_ok c.args.f.now (held (length c.args.f.now) c.args.table.now) c.in_default.field-0 (sym c.in_default.is ∙ (c.search.ensures ∙ ap (found c.args.f.now) c.counted.ensures.rows)) in
    sym (ap (λ fs. stored (length c.args.f.now) fs c.args.table.now) p ∙ stored_same (length c.args.f.now) c.args.table.now (omega arith))
