use Rattle.std.proofs.Common.{ap, arith}
use Rattle.model.specs.Model.{known}
use Rattle.layout.specs.Plan.{many_of}
use Rattle.steps.proofs.Lent.{subscribers_there, subscribers_whole}
use Rattle.steps.proofs.commands.subscribing.used_at.Goals as goal

pub place-at-requires : goal.place-at-requires
unfolding many_of
place-at-requires c = c.requires.there

pub find-requires : goal.find-requires
find-requires c =
    (c.args.opening.now.valid.0.1, subscribers_whole _ c.args.memory.now c.requires.formed c.args.b _ _ c.requires.there c.place-at.ensures.start c.place-at.ensures.stop)

pub returns : goal.returns
returns c =
    let s = subscribers_there _ c.args.memory.now c.requires.formed c.args.b _ _ c.requires.there c.place-at.ensures.start c.place-at.ensures.stop in
    let k = ap (known c.args.number) s in
    grind arith
