use Rattle.std.proofs.Common.{refl, arith}
use Rattle.channel.specs.declared.batch.Change.TheVariants.{Add, Cut}
use Rattle.model.specs.Model.{announcement}
use Rattle.layout.specs.Parts.{tree}
use Rattle.layout.specs.State.{network_of}
use Rattle.routing.proofs.Room.{length_batch}
use Rattle.routing.proofs.Told.{sent_formed, room_after, table_is, table_keeps, told_one}
use Rattle.routing.proofs.telling.tell_one.Goals as goal

pub send-requires : goal.send-requires
send-requires c =
    let o = c.args.opening.now in
    let b = c.args.broker in
    let s = network_of o c.args.memory.now in
    let t = c.new-told.ensures in
    let q = length_batch (s.announced b c.args.n) (announcement (tree o) s b c.args.n) in
    let x = t.counted.0 in
    let y = t.counted.1 in
    let r = c.requires.room in
    record {
      formed = c.requires.ready.formed;
      beside = c.requires.beside;
      wide = t.wide.0;
      room = omega arith;
    }

pub send-requires-2 : goal.send-requires-2
send-requires-2 c =
    let o = c.args.opening.now in
    let b = c.args.broker in
    let s = network_of o c.args.memory.now in
    let t = c.new-told.ensures in
    let adds = c.new-told.result.adds in
    let q = length_batch (s.announced b c.args.n) (announcement (tree o) s b c.args.n) in
    let x = t.counted.0 in
    let y = t.counted.1 in
    let r = c.requires.room in
    record {
      formed = sent_formed o c.args.memory.now c.send.new.memory b c.args.n Add adds.left adds.words.now (rw t.wide.0 at c.send.ensures);
      beside = c.requires.beside;
      wide = t.wide.1;
      room = room_after o s b c.args.n c.send.new.memory adds.words.now adds.left c.new-told.result.cuts.left (rw t.wide.0 at c.send.ensures) (omega arith);
    }

pub announce-requires : goal.announce-requires
announce-requires c =
    let o = c.args.opening.now in
    let t = c.new-told.ensures in
    let cuts = c.new-told.result.cuts in
    record {
      formed = sent_formed o c.send.new.memory c.send-2.new.memory c.args.broker c.args.n Cut cuts.left cuts.words.now (rw t.wide.1 at c.send-2.ensures);
      beside = c.requires.beside;
      table = table_keeps o c.args.memory.now c.args.broker c.requires.ready c.args.n c.requires.beside _ c.new-told.result.table.now refl t.table;
    }

pub returns : goal.returns
returns c =
    let o = c.args.opening.now in
    let t = c.new-told.ensures in
    let adds = c.new-told.result.adds in
    let cuts = c.new-told.result.cuts in
    told_one o c.args.memory.now c.args.broker c.requires.ready c.args.n c.requires.beside c.send.new.memory c.send-2.new.memory c.announce.new.memory
    adds.words.now cuts.words.now c.new-told.result.table.now adds.left cuts.left (rw t.wide.0 at c.send.ensures) (rw t.wide.1 at c.send-2.ensures) c.announce.ensures
    (rw t.wide.0 at t.added) (rw t.wide.1 at t.gone)
    (table_is o c.args.memory.now c.args.broker c.requires.ready c.args.n c.requires.beside _ c.new-told.result.table.now refl t.table)
