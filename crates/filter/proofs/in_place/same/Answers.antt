use Rattle.std.proofs.Common.{rules}
use Rattle.std.proofs.lemmas.List.{places}
use Rattle.filter.proofs.Laws.{same_is_equality}
use Rattle.filter.proofs.in_place.same.Goals as goal

pub returns : goal.returns
returns c =
    let p = same_is_equality c.args.a.now c.args.b.now in
    search (rules, places)
