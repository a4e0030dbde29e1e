use Rattle.std.proofs.Common.{◌-◌, ◌++◌, arith}
use borrow.Rule.Slice.PartMut.{put_mid}
use Rattle.layout.specs.Plan.{many_of}
use Rattle.layout.specs.State.{network_of}
use Rattle.layout.specs.Logs.{all_to}
use Rattle.layout.specs.Changed.{with_deliveries}
use Rattle.routing.proofs.Arrivals.{lent_deliveries, deliveries_written, lent_arrived, arrived_written}
use Rattle.layout.proofs.Logged.{delivers_length, delivers_count, lists_length, lists_count}
use Rattle.routing.proofs.arriving.write_down.Goals as goal

pub place-at-requires : goal.place-at-requires
unfolding many_of
place-at-requires c = omega arith

pub deliver-requires : goal.deliver-requires
deliver-requires c =
    let o = c.args.opening.now in
    let d = lent_deliveries o c.args.memory.now (network_of o c.args.memory.now) c.requires.formed c.place-at.result.at c.place-at.result.end c.place-at.ensures.start c.place-at.ensures.stop in
    let n = delivers_count _ _ d in
    let r = c.requires.room.0 in
    (delivers_length _ _ d, omega arith)

pub place-at-requires-2 : goal.place-at-requires-2
unfolding many_of
place-at-requires-2 c = c.requires.there

pub note-requires : goal.note-requires
note-requires c =
    let o = c.args.opening.now in
    let memory = c.args.memory.now in
    let s = network_of o memory in
    let at = c.place-at.result.at in
    let stop = c.place-at.result.end in
    let whom = c.args.whom.now in
    let first = deliveries_written o memory s c.requires.formed at stop c.place-at.ensures.start c.place-at.ensures.stop c.args.number whom c.deliver.new.log c.deliver.ensures.holds in
    let a = lent_arrived o (put_mid at (stop - at) memory c.deliver.new.log) (with_deliveries s (s.deliveries ++ all_to c.args.number whom)) first c.place-at-2.result.at c.place-at-2.result.end c.args.broker c.requires.there c.place-at-2.ensures.start c.place-at-2.ensures.stop in
    let n = lists_count _ _ a in
    let r = c.requires.room.1 in
    (lists_length _ _ a, omega arith)

pub returns : goal.returns
returns c =
    let o = c.args.opening.now in
    let memory = c.args.memory.now in
    let s = network_of o memory in
    let at = c.place-at.result.at in
    let stop = c.place-at.result.end in
    let whom = c.args.whom.now in
    let first = deliveries_written o memory s c.requires.formed at stop c.place-at.ensures.start c.place-at.ensures.stop c.args.number whom c.deliver.new.log c.deliver.ensures.holds in
    arrived_written o (put_mid at (stop - at) memory c.deliver.new.log) (with_deliveries s (s.deliveries ++ all_to c.args.number whom)) first c.place-at-2.result.at c.place-at-2.result.end c.args.broker c.requires.there c.place-at-2.ensures.start c.place-at-2.ensures.stop
    c.args.number c.note.new.log c.note.ensures.holds
