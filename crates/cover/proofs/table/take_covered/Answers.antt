use Rattle.std.proofs.Common.{◌≡◌, ◌-◌, ◌*◌, ◌++◌, length, get_or, drop, set, replicate, ap, ◌∙◌, arith}
use borrow.Rule.Slice.PartMut.{put_mid}
use Rattle.std.proofs.lemmas.List.{take_rest}
use Rattle.cover.specs.Maximal.{outside}
use Rattle.cover.specs.Table.{held, written}
use Rattle.cover.proofs.TableLaws.{held_part, length_held, length_outside, stored_left}
use Rattle.cover.proofs.table.take_covered.Goals as goal

pub returns : goal.returns
returns c =
    let p = held_part (length c.args.f.now) c.args.table.now in
    let k : c.keep_outside-left.result ≡ length (outside c.args.f.now (held (length c.args.f.now) c.args.table.now)) = rw p at c.keep_outside-left.ensures.counted in
    let y : c.keep_outside-left.new.words ≡ written (outside c.args.f.now (held (length c.args.f.now) c.args.table.now)) ++ (replicate (length c.args.f.now * get_or c.args.table.now 0 0 - length c.args.f.now * length (outside c.args.f.now (held (length c.args.f.now) c.args.table.now))) 0 ++ drop (length c.args.f.now * get_or c.args.table.now 0 0) (drop 1 c.args.table.now)) =
    rw (p, take_rest, k) at c.keep_outside-left.ensures.words in
    let o = length_outside c.args.f.now (held (length c.args.f.now) c.args.table.now) in
    let l = length_held (length c.args.f.now) c.args.table.now in
    ap (set (put_mid 1 (length c.args.table.now - 1) c.args.table.now c.keep_outside-left.new.words) 0) k
    ∙ stored_left (length c.args.f.now) (outside c.args.f.now (held (length c.args.f.now) c.args.table.now)) c.args.table.now c.keep_outside-left.new.words (omega arith) (omega arith) y
