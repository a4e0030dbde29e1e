use Rattle.std.proofs.Common.{length, take, refl, ap, arith}
use Rattle.std.proofs.lemmas.List.{length-take-le}
use Rattle.layout.specs.State.{network_of}
use Rattle.routing.specs.Rooms.{no_room_to_pass, no_room_to_deliver}
use Rattle.routing.proofs.Arrivals.{first_none, goes_apart, goes_beside, goes_room, deliveries_room, arrived_now}
use Rattle.layout.proofs.Encoded.{reads, formed}
use Rattle.routing.proofs.arriving.arrive.Goals as goal

pub send_all-requires : goal.send_all-requires
send_all-requires c =
    let o = c.args.opening.now in
    let s = network_of o c.args.memory.now in
    let b = c.args.broker in
    let e = take o.ranges c.args.notice.numbers in
    let reach = c.args.reach.now in
    let (pass, _) = first_none _ _ c.requires.room in
    record {
      formed = c.requires.formed;
      apart = goes_apart o s b c.args.from e reach c.requires.there c.requires.reaches;
      room = λ n t. (goes_beside o s b c.args.from e reach c.requires.there c.requires.reaches n t, goes_room o s b c.args.from e reach c.requires.there c.requires.reaches c.args.number pass n t);
    }

pub write_down-requires : goal.write_down-requires
write_down-requires c =
    let o = c.args.opening.now in
    let s = network_of o c.args.memory.now in
    let e = take o.ranges c.args.notice.numbers in
    let reach = c.args.reach.now in
    let f = length-take-le reach.many reach.whom c.requires.reaches.few.1 in
    let r = reads o c.send_all.new.memory _ c.send_all.ensures in
    let x = ap (λ u. length u.deliveries) r in
    let y = ap (λ u. length (u.arrived c.args.broker)) r in
    let full = no_room_to_pass o s c.args.broker c.args.from c.args.number e in
    let many = no_room_to_deliver s c.args.broker c.args.number e in
    let m = deliveries_room o s c.args.broker c.args.from e reach c.requires.there c.requires.reaches c.args.number (first_none full many c.requires.room).1 in
    let n = c.requires.new in
    record {
      formed = formed o c.send_all.new.memory _ c.send_all.ensures;
      there = c.requires.there;
      room = (omega arith, omega arith);
    }

pub returns : goal.returns
returns c =
    let o = c.args.opening.now in
    let s = network_of o c.args.memory.now in
    let e = take o.ranges c.args.notice.numbers in
    let reach = c.args.reach.now in
    arrived_now o s c.args.broker c.args.from e reach c.requires.there c.requires.reaches c.args.number _ _ c.send_all.new.memory c.write_down.new.memory
    refl refl c.send_all.ensures c.write_down.ensures
