use Rattle.std.proofs.Common.{take, sym, refl, ◌∙◌}
use Rattle.model.specs.Model.{notice}
use Rattle.layout.specs.State.{network_of}
use Rattle.layout.specs.Changed.{with_channel}
use Rattle.layout.specs.declared.command.Command.TheVariants.{Carry}
use Rattle.layout.proofs.Encoded.{formed}
use Rattle.steps.proofs.Noticed.{room_alike, reaches_alike, alike_held, alike_taken, held_arrived, carry_asks, carried_room, carried_performed}
use Rattle.steps.proofs.Performing.{refused_on, refused_says, allowed_says}
use Rattle.layout.proofs.Written.{edge_brokers}
use Rattle.steps.proofs.commands.carrying.carry_notice.Goals as goal

pub find-reach-requires : goal.find-reach-requires
find-reach-requires c = record { formed = c.requires.sound.formed; there = (edge_brokers c.args.opening.now c.args.from c.args.to c.requires.beside).1 }

pub refused-requires : goal.refused-requires
refused-requires c = record { formed = c.requires.sound.formed; there = (edge_brokers c.args.opening.now c.args.from c.args.to c.requires.beside).1; reaches = c.find-reach.ensures }

pub returns-in_err-refused : goal.returns-in_err-refused
returns-in_err-refused c =
    let o = c.args.opening.now in
    let memory = c.args.memory.now in
    let e = c.in_err-refused.field-0.0 in
    refused_on o memory (Carry c.args.from c.args.to) e c.requires.sound
    (carry_asks o (network_of o memory) c.args.from c.args.to c.requires.beside c.args.number (take o.ranges c.args.notice.numbers) c.requires.oldest.0 c.requires.oldest.1 ∙ refused_says _ _ e c.in_err-refused.ensures)
    memory refl _ c.from_residual.ensures.1

pub arrive-requires : goal.arrive-requires
arrive-requires c =
    let o = c.args.opening.now in
    let memory = c.args.memory.now in
    let s = network_of o memory in
    let a = c.args.from in
    let b = c.args.to in
    let k = c.args.number in
    let e = take o.ranges c.args.notice.numbers in
    let ms = c.requires.oldest.0 in
    let off = c.take_oldest.new.memory in
    let f = c.take_oldest.ensures (notice k e) ms c.requires.oldest.1 in
    let like = alike_held o off s (with_channel s a b ms) b f (alike_taken o s a b ms c.requires.beside) in
    record {
      formed = formed o off (with_channel s a b ms) f;
      there = (edge_brokers o a b c.requires.beside).1;
      reaches = reaches_alike o s (network_of o off) b a k e like c.find-reach.result c.find-reach.ensures;
      room = sym (room_alike o s (network_of o off) b a k e like) ∙ allowed_says _ _ _ c.in_ok-refused.ensures;
      new = held_arrived o off (with_channel s a b ms) b f (carried_room o memory c.requires.sound a b c.requires.beside k e ms c.requires.oldest.1);
    }

pub returns : goal.returns
returns c =
    let o = c.args.opening.now in
    let memory = c.args.memory.now in
    let s = network_of o memory in
    let a = c.args.from in
    let b = c.args.to in
    let k = c.args.number in
    let e = take o.ranges c.args.notice.numbers in
    carried_performed o memory c.requires.sound a b c.requires.beside k e c.requires.oldest.0 c.requires.oldest.1 c.find-reach.result
    c.find-reach.ensures
    (allowed_says _ _ _ c.in_ok-refused.ensures)
    c.take_oldest.new.memory c.arrive.new.memory (c.take_oldest.ensures (notice k e) c.requires.oldest.0 c.requires.oldest.1) c.arrive.ensures
