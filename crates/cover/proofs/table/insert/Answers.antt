use Rattle.std.proofs.Common.{◌≡◌, true, false, length, sym, ap, ◌∙◌, arith}
use Rattle.cover.specs.Maximal.{insert, put, any_covers}
use Rattle.cover.specs.Table.{held, stored}
use Rattle.cover.proofs.TableLaws.{stored_same, stored_insert, room_left}
use Rattle.cover.proofs.table.insert.Goals as goal

pub returns-then-covers : goal.returns-then-covers
unfolding insert
returns-then-covers c =
    let a : any_covers (held (length c.args.f.now) c.args.table.now) c.args.f.now ≡ true = rw c.counted.ensures.rows at (sym c.if-covers.ensures) in
    rw a (sym (stored_same (length c.args.f.now) c.args.table.now (omega arith)))

pub put-requires-clause-room : goal.put-requires-clause-room
put-requires-clause-room c = room_left (length c.args.f.now) c.args.f.now c.args.table.now c.take_covered.new.table c.take_covered.ensures (omega arith) c.requires.room

pub returns : goal.returns
returns c =
    let a : any_covers (held (length c.args.f.now) c.args.table.now) c.args.f.now ≡ false = rw c.counted.ensures.rows at (sym c.if-covers.ensures) in
    c.put.ensures
    ∙ (ap (λ t. stored (length c.args.f.now) (put c.args.f.now (held (length c.args.f.now) t)) t) c.take_covered.ensures
    ∙ stored_insert (length c.args.f.now) c.args.f.now c.args.table.now (omega arith) a)
