use Rattle.std.proofs.Common.{length}
use Rattle.layout.specs.Plan.{many_of}
use Rattle.layout.specs.Parts.{plan_of}
use Rattle.routing.proofs.Found.{own_whole, around_learned, known_room, announcement_found}
use Rattle.layout.proofs.Written.{lent_part}
use Rattle.routing.proofs.telling.find.Goals as goal

pub place-at-requires : goal.place-at-requires
unfolding many_of
place-at-requires c = c.requires.ready.there

pub to_announce-requires : goal.to_announce-requires
to_announce-requires c =
    let o = c.args.opening.now in
    let memory = c.args.memory.now in
    let b = c.args.broker in
    let ready = c.requires.ready in
    let own = lent_part (plan_of o) 0 b c.place-at.result.at c.place-at.result.end memory c.place-at.ensures.start c.place-at.ensures.stop in
    let ns = c.as_slice.ensures.value in
    let around = c.surround-around.ensures in
    record {
      count = o.valid.0;
      whole = rw own (own_whole o memory b ready.formed ready.there);
      learned = rw ns (around_learned o memory b ready.formed ready.there _ around);
      room = rw ns (known_room o memory b ready.formed ready.there _ around _ own c.args.n ready c.requires.beside _ c.requires.room);
    }

pub returns : goal.returns
returns c =
    let o = c.args.opening.now in
    let memory = c.args.memory.now in
    let b = c.args.broker in
    let ready = c.requires.ready in
    let own = lent_part (plan_of o) 0 b c.place-at.result.at c.place-at.result.end memory c.place-at.ensures.start c.place-at.ensures.stop in
    announcement_found o memory b ready.formed ready.there _ c.surround-around.ensures _ own c.args.n (length c.args.table.now) c.to_announce.new.out
    (rw c.as_slice.ensures.value at c.to_announce.ensures.model)
