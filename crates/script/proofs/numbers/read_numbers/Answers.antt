use Rattle.std.proofs.Common.{◌≡◌, ◌*◌, length, take, drop, arith}
use Rattle.std.proofs.lemmas.Grind.{common_steps}
use Rattle.std.proofs.lemmas.List.{take_more_set, take_all}
use Rattle.std.specs.Simd.{first_chunks}
use Rattle.script.proofs.Fours.{numbers_more, chunk_number}
use Rattle.script.proofs.numbers.read_numbers.Goals as goal

pub loop-k-preserved : goal.loop-k-preserved
loop-k-preserved c =
    let count = length c.args.numbers.now in
    let m = numbers_more c.loop-k.k c.args.input.now c.args.at in
    let n = chunk_number count c.loop-k.k c.args.input.now c.args.at (omega arith) in
    let f : c.as_chunks.result.0.now ≡ first_chunks 4 count (take (4 * count) (drop c.args.at c.args.input.now)) = grind (arith, common_steps) in
    let p = take_more_set c.loop-k.numbers c.loop-k.k c.from.result (omega arith) in
    cc

pub returns : goal.returns
returns c =
    let p = take_all c.loop-k.k c.loop-k.numbers (omega arith) in
    let e : c.loop-k.k ≡ length c.args.numbers.now = omega arith in
    cc
