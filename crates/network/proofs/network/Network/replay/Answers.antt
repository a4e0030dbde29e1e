use Rattle.std.proofs.Common.{◌*◌, length, sym, refl, ◌∙◌, arith}
use Rattle.std.proofs.lemmas.Bool.{ltb-false}
use Rattle.steps.proofs.Options.{missed}
use Rattle.model.specs.Promise.{covering}
use Rattle.channel.specs.Message.{words}
use Rattle.layout.specs.Mail.{message_in}
use Rattle.layout.proofs.Carried.{carries_shape, carries_length, carries_count}
use Rattle.network.proofs.Opened.{network_sound}
use Rattle.network.proofs.Replayed.{message_at, replay_begins, replay_whole, replay_order, replay_fails, replay_ends, replay_room, replay_more, replay_covers}
use Rattle.network.proofs.network.Network.replay.Goals as goal
use Rattle.network.proofs.network.Network.replay.Goals.{in-Some, in_default}

pub count-i-end-requires : goal.count-i-end-requires
count-i-end-requires c =
    let l = carries_length _ _ _ _ c.channel-channel.ensures in
    rw l (omega arith)

pub loop-i-init : goal.loop-i-init
loop-i-init c =
    let n = c.args.self.now in
    replay_begins n.opening n.memory.now (network_sound n) c.args.from c.args.to c.requires.beside (covering c.args.filter.now) c.args.table.now c.requires.table

pub counted-requires : goal.counted-requires
counted-requires c = replay_whole c.loop-i.invariant (length c.args.filter.now) c.requires.wide

pub returns-then-not-covers : goal.returns-then-not-covers
returns-then-not-covers c =
    replay_fails c.loop-i.invariant (sym (replay_covers c.loop-i.invariant c.args.filter.now c.requires.wide _ c.counted.ensures.rows _ c.if-not-covers.ensures))

pub get-requires : goal.get-requires
get-requires c = (c.args.self.now.opening.valid.0.1, carries_shape _ _ _ _ c.channel-channel.ensures)

pub apply-requires : goal.apply-requires
apply-requires c =
    let o = c.args.self.now.opening in
    let k = c.channel-channel.ensures in
    let n = message_at o.messages o.ranges _ _ k o.valid.0.1 c.loop-i.i c.in-Some.message (c.in-Some.ensures.holds _ _ k.rows) in
    record {
      count = o.valid.0;
      whole = replay_whole c.loop-i.invariant (2 * o.ranges) refl;
      order = replay_order c.loop-i.invariant;
      room = replay_room c.loop-i.invariant (message_in o.ranges (words o.ranges c.in-Some.message)) n.0;
    }

pub loop-i-preserved : goal.loop-i-preserved
loop-i-preserved c =
    let o = c.args.self.now.opening in
    let k = c.channel-channel.ensures in
    elim c.match-get.branch [
      | in-Some w ↦
          let n = message_at o.messages o.ranges _ _ k o.valid.0.1 c.loop-i.i w.in-Some.message (w.in-Some.ensures.holds _ _ k.rows) in
          rw w.table-is
          (replay_more c.loop-i.invariant (message_in o.ranges (words o.ranges w.in-Some.message)) n.0 n.1
          (sym (replay_covers c.loop-i.invariant c.args.filter.now c.requires.wide _ c.counted.ensures.rows _ c.if-not-covers.ensures)) w.apply.new.learned w.apply.ensures)
      | in_default w ↦ absurd (omega (arith, c.count-i-end.ensures.answer, ltb-false c.loop-i.i _ (missed _ _ w.in_default.ensures.answer), c.loop-i-test.true))
    ]

pub counted-requires-2 : goal.counted-requires-2
counted-requires-2 c = replay_whole c.loop-i.invariant (length c.args.filter.now) c.requires.wide

pub returns : goal.returns
returns c =
    let n = c.count-i-end.ensures.answer ∙ carries_count _ _ _ _ c.channel-channel.ensures in
    replay_covers c.loop-i.invariant c.args.filter.now c.requires.wide _ c.counted-2.ensures.rows _ c.covers-2.ensures
    ∙ replay_ends c.loop-i.invariant (omega (arith, n, c.loop-i-test.false))
