use Rattle.std.proofs.Common.{◌+◌, ◌*◌, ◌∷◌, arith, rules}
use Rattle.std.proofs.lemmas.Bool.Decides.{nat_tests}
use Rattle.channel.specs.Ring.{taken}
use Rattle.channel.proofs.Held.{taken_holds, get_held, count_held}
use Rattle.channel.proofs.ring.take.Goals as goal

pub returns : goal.returns
unfolding taken
returns c =
    record {
      answer = grind (arith, nat_tests);
      words = grind (arith, nat_tests);
      shape = search rules;
      holds = λ begin x xs h.
          let g = get_held c.args.room (2 + 2 * c.args.m) begin 0 (x ∷ xs) c.args.channel.now h (omega arith) in
          (grind (arith, nat_tests), taken_holds _ _ begin xs _ x h _ (grind (arith, nat_tests)));
    }

pub returns-then-count-eq0 : goal.returns-then-count-eq0
unfolding taken
returns-then-count-eq0 c =
    record {
      answer = grind (arith, nat_tests);
      words = grind (arith, nat_tests);
      shape = search rules;
      holds = λ begin x xs h. absurd (omega (arith, count_held _ _ begin (x ∷ xs) _ h));
    }
