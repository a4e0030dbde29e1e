use Rattle.std.proofs.Common.{◌+◌, ◌*◌, ◌<◌, length, arith}
use Rattle.std.proofs.lemmas.Bool.Decides.{nat_tests}
use Rattle.channel.proofs.Held.{get_held, count_held}
use Rattle.channel.proofs.ring.get.Goals as goal

pub returns : goal.returns
returns c =
    record {
      answer = grind (arith, nat_tests);
      holds = λ begin xs h.
          let n = count_held c.args.room (2 + 2 * c.args.m) begin xs c.args.channel.now h in
          let l : c.args.i < length xs = omega arith in
          let g = get_held c.args.room (2 + 2 * c.args.m) begin c.args.i xs c.args.channel.now h l in
          grind (arith, nat_tests);
    }

pub returns-then-i-count : goal.returns-then-i-count
returns-then-i-count c =
    record {
      answer = grind (arith, nat_tests);
      holds = λ begin xs h.
          let n = count_held c.args.room (2 + 2 * c.args.m) begin xs c.args.channel.now h in
          grind (arith, nat_tests);
    }
