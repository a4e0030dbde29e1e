use Rattle.std.proofs.Common.{length, take, ap, arith}
use Rattle.std.proofs.lemmas.List.{length-append, length-take-le}
use Rattle.std.proofs.lemmas.List.Sums.{AllPass-from_list_all}
use Rattle.script.specs.Writing.{small}
use Rattle.script.proofs.Fours.{length_fours}
use Rattle.script.proofs.writer.put_numbers.Goals as goal

pub put_number-requires : goal.put_number-requires
put_number-requires c =
    let i = c.loop-n.n-index in
    let ns = c.args.numbers.now in
    let t = length-take-le i ns (omega arith) in
    let l = length_fours (take i ns) in
    let s = AllPass-from_list_all small ns c.requires.1 in
    (omega (arith, simp length-append at (ap length c.loop-n.invariant)), s i 0 (omega arith))
