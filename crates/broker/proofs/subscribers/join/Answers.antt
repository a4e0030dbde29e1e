use Rattle.std.proofs.Common.{◌+◌, ◌*◌, length, get_or, take, arith, rules}
use Rattle.std.proofs.lemmas.Bool.Decides.{nat_tests}
use Rattle.broker.proofs.Slots.{slot_fits}
use Rattle.broker.proofs.Part.{joined, joined_holds, shape_whole, count_held}
use Rattle.broker.proofs.subscribers.join.Goals as goal

pub returns-then-count-room : goal.returns-then-count-room
returns-then-count-room c =
    record {
      answer = grind (arith, nat_tests);
      words = grind (arith, nat_tests);
      fits = search rules;
      holds = λ rs h l. absurd (omega (arith, count_held c.args.room c.args.m rs c.args.part.now h));
    }

pub write_slot-requires : goal.write_slot-requires
write_slot-requires c =
    (c.requires.0, slot_fits (1 + 2 * c.args.m) c.args.room (get_or c.args.part.now 0 0) (length c.args.part.now) (omega arith) (omega (arith, c.requires.1.0)))

pub returns : goal.returns
returns c =
    let h = shape_whole c.args.room c.args.m c.args.part.now c.requires.1 in
    let e = joined c.args.m c.args.part.now (record { number = c.args.number; filter = take (2 * c.args.m) c.args.filter.bounds }) h in
    record {
      answer = grind (arith, nat_tests);
      words = grind (arith, nat_tests);
      fits = search rules;
      holds = λ rs k l. joined_holds c.args.room c.args.m rs c.args.part.now _ k l (search rules) _ (grind (arith, nat_tests));
    }
