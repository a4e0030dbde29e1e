use Rattle.std.proofs.Common.{◌≡◌, length, Err, refl, sym, ap, ◌∙◌, arith, rules}
use Rattle.std.proofs.lemmas.List.{length-take-le}
use Rattle.layout.specs.Plan.{many_of, size_of}
use Rattle.layout.specs.State.{network_of}
use Rattle.routing.proofs.Arrivals.{channel_within, deliveries_counted, reached_few, refused_pass, refused_deliver, refused_none}
use Rattle.routing.proofs.arriving.refused.Goals as goal

pub returns-in_err-lacks_room : goal.returns-in_err-lacks_room
returns-in_err-lacks_room c =
    let o = c.args.opening.now in
    let s = network_of o c.args.memory.now in
    let e = c.args.notice.now in
    let fits = channel_within o c.args.memory.now c.requires.formed c.args.broker in
    let p : c.from_residual.result ≡ Err c.in_err-lacks_room.field-0.0 = search rules in
    p
    ∙ refused_pass o s c.args.broker c.args.from e c.args.reach.now c.requires.there c.requires.reaches tt c.args.number fits _ refl _
    (sym c.in_err-lacks_room.was ∙ c.lacks_room.ensures c.args.number e)

pub place-at-requires : goal.place-at-requires
unfolding many_of
place-at-requires c = omega arith

pub bounds-memory-at : goal.bounds-memory-at
unfolding size_of
bounds-memory-at c =
    let w = c.requires.formed.whole in
    let p = c.place-at.ensures.start in
    let q = c.place-at.ensures.stop in
    let r = c.place-at.ensures.within in
    omega arith

pub overflow_add-memory : goal.overflow_add-memory
overflow_add-memory c =
    let o = c.args.opening.now in
    let memory = c.args.memory.now in
    let s = network_of o memory in
    let n = deliveries_counted o memory s c.requires.formed c.place-at.result.at c.place-at.result.end c.place-at.ensures.start c.place-at.ensures.stop in
    let d = c.requires.formed.deliveries.fits in
    let f = (c.requires.formed.subscribers c.args.broker c.requires.there).fits in
    let v = o.valid.2.1 in
    let r = reached_few c.args.notice.now (s.subscribers c.args.broker) in
    let m = sym (length-take-le c.args.reach.now.many c.args.reach.now.whom c.requires.reaches.few.1) ∙ ap length c.requires.reaches.whom in
    omega arith

pub returns-then-memory-at-gt-MOST_DELIVERIES : goal.returns-then-memory-at-gt-MOST_DELIVERIES
returns-then-memory-at-gt-MOST_DELIVERIES c =
    let o = c.args.opening.now in
    let memory = c.args.memory.now in
    let s = network_of o memory in
    let n = deliveries_counted o memory s c.requires.formed c.place-at.result.at c.place-at.result.end c.place-at.ensures.start c.place-at.ensures.stop in
    let t = c.if-memory-at-gt-MOST_DELIVERIES.true in
    let fits = channel_within o memory c.requires.formed c.args.broker in
    refused_deliver o s c.args.broker c.args.from c.args.notice.now c.args.reach.now c.requires.there c.requires.reaches tt c.args.number fits _ refl
    (sym c.in_ok-lacks_room.was ∙ c.lacks_room.ensures c.args.number c.args.notice.now) (omega arith)

pub returns : goal.returns
returns c =
    let o = c.args.opening.now in
    let memory = c.args.memory.now in
    let s = network_of o memory in
    let n = deliveries_counted o memory s c.requires.formed c.place-at.result.at c.place-at.result.end c.place-at.ensures.start c.place-at.ensures.stop in
    let t = c.if-memory-at-gt-MOST_DELIVERIES.false in
    let fits = channel_within o memory c.requires.formed c.args.broker in
    refused_none o s c.args.broker c.args.from c.args.notice.now c.args.reach.now c.requires.there c.requires.reaches tt c.args.number fits _ refl
    (sym c.in_ok-lacks_room.was ∙ c.lacks_room.ensures c.args.number c.args.notice.now) (omega arith)
