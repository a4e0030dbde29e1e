use Rattle.std.proofs.Common.{◌≡◌, ◌*◌, ◌≤◌, true, false, length, take, sym, arith, rules}
use Rattle.cover.specs.Maximal.{among}
use Rattle.cover.specs.Table.{held}
use Rattle.steps.proofs.Learning.{learn_found, learn_room, learned_words, forgotten_words, passed_words}
use Rattle.steps.proofs.commands.carrying.apply.Goals as goal

pub learn-requires : goal.learn-requires
learn-requires c =
    let f = c.in-Add.filter in
    let front = take (2 * c.args.ranges) f.bounds in
    let long : 2 * c.args.ranges ≤ length f.bounds = search rules in
    let new : among front (held (2 * c.args.ranges) c.args.learned.now) ≡ false = rw c.counted.ensures.rows at (sym c.if-not-has.ensures) in
    record { count = c.requires.count; room = learn_room c.args.ranges c.args.message f c.args.learned.now c.in-Add.is long new c.requires.room }

pub returns-then-not-has : goal.returns-then-not-has
returns-then-not-has c =
    let long : 2 * c.args.ranges ≤ length c.in-Add.filter.bounds = search rules in
    learned_words c.args.ranges c.args.message c.in-Add.filter c.args.learned.now c.in-Add.is long c.learn.new.learned c.learn.ensures.words

pub returns-else-not-has : goal.returns-else-not-has
returns-else-not-has c =
    let f = c.in-Add.filter in
    let front = take (2 * c.args.ranges) f.bounds in
    let long : 2 * c.args.ranges ≤ length f.bounds = search rules in
    let there : among front (held (2 * c.args.ranges) c.args.learned.now) ≡ true = rw c.counted.ensures.rows at (sym c.if-not-has.ensures) in
    learn_found c.args.ranges c.args.message f c.args.learned.now c.in-Add.is long there c.requires.order (omega (arith, c.requires.whole))

pub returns-in-Cut : goal.returns-in-Cut
returns-in-Cut c = forgotten_words c.args.ranges c.args.message c.in-Cut.filter c.args.learned.now c.forget.new.learned c.in-Cut.is c.forget.ensures.words

pub returns-in-Notice : goal.returns-in-Notice
returns-in-Notice c = passed_words c.args.ranges c.args.message c.in-Notice.number c.in-Notice.notice c.args.learned.now c.in-Notice.is (omega (arith, c.requires.whole))
