use Rattle.std.proofs.Common.{◌≡◌, ◌*◌, ◌++◌, length, get_or, drop, replicate, sym, ap, ◌∙◌, arith}
use Rattle.std.specs.List.{remove}
use Rattle.std.proofs.lemmas.List.{take_rest, length-drop}
use Rattle.cover.specs.Table.{held, stored, written}
use Rattle.cover.proofs.Order.{without_fresh}
use Rattle.cover.proofs.RowLaws.{place_found, place_lacking, without_at}
use Rattle.cover.proofs.TableLaws.{held_part, length_held, stored_same, stored_removed, relaid}
use Rattle.cover.proofs.table.take_out.Goals as goal

pub close-requires : goal.close-requires
close-requires c =
    let p = place_found c.args.f.now (held (length c.args.f.now) c.args.table.now) c.in-Some.at (rw c.counted.ensures.rows at (sym c.in-Some.is ∙ c.index_of.ensures)) in
    let l = length_held (length c.args.f.now) c.args.table.now in
    (omega (arith, p.1), simp (take_rest, length-drop) (omega (arith, c.requires)))

pub overflow_sub-table : goal.overflow_sub-table
overflow_sub-table c =
    let p = place_found c.args.f.now (held (length c.args.f.now) c.args.table.now) c.in-Some.at (rw c.counted.ensures.rows at (sym c.in-Some.is ∙ c.index_of.ensures)) in
    let l = length_held (length c.args.f.now) c.args.table.now in
    rw (relaid c.args.table.now c.close.new.words (omega arith)) (omega (arith, p.1))

pub returns-in-Some : goal.returns-in-Some
returns-in-Some c =
    let h = held_part (length c.args.f.now) c.args.table.now in
    let p = place_found c.args.f.now (held (length c.args.f.now) c.args.table.now) c.in-Some.at (rw c.counted.ensures.rows at (sym c.in-Some.is ∙ c.index_of.ensures)) in
    let l = length_held (length c.args.f.now) c.args.table.now in
    let y : c.close.new.words ≡ written (remove (held (length c.args.f.now) c.args.table.now) c.in-Some.at) ++ (replicate (length c.args.f.now) 0 ++ drop (length c.args.f.now * get_or c.args.table.now 0 0) (drop 1 c.args.table.now)) =
    rw (h, take_rest) at c.close.ensures in
    let q = without_at c.args.f.now (held (length c.args.f.now) c.args.table.now) ∙ ap (remove (held (length c.args.f.now) c.args.table.now)) (sym p.0) in
    stored_removed (length c.args.f.now) c.args.table.now c.close.new.words c.in-Some.at (omega arith) (omega (arith, p.1)) y
    ∙ ap (λ fs. stored (length c.args.f.now) fs c.args.table.now) (sym q)

pub returns-in_default : goal.returns-in_default
returns-in_default c =
    let a = place_lacking c.args.f.now (held (length c.args.f.now) c.args.table.now) (rw c.counted.ensures.rows at (sym c.in_default.is ∙ c.index_of.ensures)) in
    let q = without_fresh c.args.f.now (held (length c.args.f.now) c.args.table.now) a in
    sym (ap (λ fs. stored (length c.args.f.now) fs c.args.table.now) q ∙ stored_same (length c.args.f.now) c.args.table.now (omega arith))
