use Rattle.std.proofs.Common.{◌+◌, ◌*◌, ◌≤◌, length, rules}
use Rattle.channel.proofs.Rows.{row_fits}
use Rattle.channel.proofs.ring.start.Goals as goal

-- the slot lies within the words
inside : (c : goal.After-around) → 2 + c.args.width * c.around.result + c.args.width ≤ length c.args.channel.now
inside c = row_fits c.args.width c.args.room c.around.result (length c.args.channel.now) c.around.ensures.within c.requires.0.0

pub overflow_mul-result : goal.overflow_mul-result
overflow_mul-result c =
    let h = inside c in
    search rules

pub overflow_add-result : goal.overflow_add-result
overflow_add-result c =
    let h = inside c in
    search rules

pub returns : goal.returns
returns c =
    let h = inside c in
    record { word = search rules; within = h }
