use Rattle.std.proofs.Common.{arith}
use Rattle.std.proofs.lemmas.Bool.Decides.{nat_tests}
use Rattle.cover.specs.Entry.{unfit, known_whole}
use Rattle.cover.proofs.telling.check.Goals as goal

pub returns-then-not-known_whole : goal.returns-then-not-known_whole
unfolding unfit
returns-then-not-known_whole c =
    let k = c.if-not-known_whole.ensures in
    grind (arith, nat_tests)

pub said_whole-requires : goal.said_whole-requires
unfolding known_whole
said_whole-requires c =
    let k = c.if-not-known_whole.ensures in
    (grind (arith, nat_tests), grind (arith, nat_tests))

pub returns-then-not-said_whole : goal.returns-then-not-said_whole
unfolding unfit
returns-then-not-said_whole c =
    let k = c.if-not-known_whole.ensures in
    let s = c.then-not-said_whole.either in
    grind (arith, nat_tests)

pub returns-then-mail : goal.returns-then-mail
unfolding unfit
returns-then-mail c =
    let k = c.if-not-known_whole.ensures in
    let s = c.if-not-said_whole.ensures in
    grind (arith, nat_tests)

pub returns : goal.returns
unfolding unfit
returns c =
    let k = c.if-not-known_whole.ensures in
    let s = c.if-not-said_whole.ensures in
    grind (arith, nat_tests)
