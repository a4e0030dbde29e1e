use Rattle.std.proofs.Common.{◌+◌, ◌*◌, get_or, arith, rules}
use Rattle.std.proofs.lemmas.Bool.Decides.{nat_tests}
use Rattle.channel.specs.Ring.{appended, turn}
use Rattle.channel.proofs.Held.{appended_holds, appended_shape, count_held}
use Rattle.channel.proofs.ring.append.Goals as goal

pub returns : goal.returns
unfolding appended
returns c =
    record {
      answer = grind (arith, nat_tests);
      words = grind (arith, nat_tests);
      shape = appended_shape _ _ ((2 + 2 * c.args.m) * turn c.args.room (get_or c.args.channel.now 0 0) c.count-count.result) _ c.write.new.slot c.requires.1 (omega arith) _ (search rules) (grind (arith, nat_tests));
      counted = search rules;
      holds = λ begin xs h l. appended_holds _ _ begin xs _ _ h (search rules) l _ (grind (arith, nat_tests));
    }

-- a channel that has room is not refused
pub returns-then-count-room : goal.returns-then-count-room
unfolding appended
returns-then-count-room c =
    record {
      answer = grind (arith, nat_tests);
      words = grind (arith, nat_tests);
      shape = search rules;
      counted = grind (arith, nat_tests);
      holds = λ begin xs h l. absurd (omega (arith, count_held _ _ begin xs _ h));
    }
