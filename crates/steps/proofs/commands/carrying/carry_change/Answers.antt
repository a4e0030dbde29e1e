use Rattle.std.proofs.Common.{◌-◌, sym, ap, ◌∙◌, arith}
use borrow.Rule.Slice.PartMut.{put_mid}
use Rattle.broker.proofs.Kept.{length_kept}
use Rattle.channel.specs.Message.{words}
use Rattle.model.specs.Model.{after}
use Rattle.layout.specs.Parts.{filters_room}
use Rattle.layout.specs.State.{network_of, Encodes}
use Rattle.layout.specs.Mail.{message_in}
use Rattle.layout.specs.Changed.{with_table}
use Rattle.layout.specs.declared.command.Command.TheVariants.{Carry}
use Rattle.layout.proofs.Written.{edge_brokers}
use Rattle.routing.proofs.Sendings.{ends_small}
use Rattle.steps.proofs.Carrying.{change_is}
use Rattle.steps.proofs.Lent.{link_learned}
use Rattle.routing.proofs.Compared.{table_most}
use Rattle.steps.proofs.Restored.{put_back}
use Rattle.steps.proofs.Performing.{refused_on}
use Rattle.steps.proofs.Tabled.{table, table_whole, table_order, table_room, new_length, table_changed, table_ready, change_refusal, told_formed, change_done}
use Rattle.steps.proofs.commands.carrying.carry_change.Goals as goal
use Rattle.steps.proofs.commands.carrying.carry_change.Goals.{After-apply}

pub link-requires : goal.link-requires
link-requires c = ends_small c.args.opening.now c.args.from c.args.to c.requires.beside

pub place-at-requires : goal.place-at-requires
place-at-requires c = link_learned c.args.opening.now c.args.from c.args.to c.link.result c.requires.beside c.link.ensures

pub save-saved-requires : goal.save-saved-requires
save-saved-requires c =
    let o = c.args.opening.now in
    let k = table o c.args.memory.now c.requires.sound c.args.from c.args.to c.requires.beside _ _ c.requires.oldest.1 _ _ _ c.link.ensures c.place-at.ensures.start c.place-at.ensures.stop in
    let l = length_kept (filters_room o) o.ranges _ _ k in
    let t = table_most o in
    omega arith

pub apply-requires : goal.apply-requires
apply-requires c =
    let o = c.args.opening.now in
    let memory = c.args.memory.now in
    record {
      count = o.valid.0;
      whole = table_whole o memory c.requires.sound c.args.from c.args.to c.requires.beside _ _ c.requires.oldest.1 _ _ _ c.link.ensures c.place-at.ensures.start c.place-at.ensures.stop;
      order = table_order o memory c.requires.sound c.args.from c.args.to c.requires.beside _ _ c.requires.oldest.1 _ _ _ c.link.ensures c.place-at.ensures.start c.place-at.ensures.stop;
      room = table_room o memory c.requires.sound c.args.from c.args.to c.requires.beside _ _ c.requires.oldest.1 _ _ _ c.link.ensures c.place-at.ensures.start c.place-at.ensures.stop;
    }

-- the message has reached the table
reached : (c : After-apply) →
    Encodes c.args.opening.now (put_mid c.place-at.result.at (c.place-at.result.end - c.place-at.result.at) c.args.memory.now c.apply.new.learned)
    (with_table (network_of c.args.opening.now c.args.memory.now) c.args.to c.args.from (after (message_in c.args.opening.now.ranges (words c.args.opening.now.ranges c.args.message)) ((network_of c.args.opening.now c.args.memory.now).learned c.args.to c.args.from)))
reached c =
    table_changed _ c.args.memory.now c.requires.sound c.args.from c.args.to c.requires.beside _ _ c.requires.oldest.1 _ _ _ c.link.ensures c.place-at.ensures.start c.place-at.ensures.stop _ c.apply.ensures

pub settle-requires-clause-ready : goal.settle-requires-clause-ready
settle-requires-clause-ready c =
    table_ready _ c.args.memory.now c.requires.sound c.args.from c.args.to c.requires.beside _ _ c.requires.oldest.1 _ (reached (goal.at.settle-requires-clause-ready c).After-apply)
    (edge_brokers c.args.opening.now c.args.from c.args.to c.requires.beside).1

pub returns-in_err-settle : goal.returns-in_err-settle
returns-in_err-settle c =
    let o = c.args.opening.now in
    let memory = c.args.memory.now in
    let new = c.apply.new.learned in
    let at = c.place-at.result.at in
    let stop = c.place-at.result.end in
    let holds = reached (goal.at.returns-in_err-settle c).After-apply in
    let l = new_length o memory c.requires.sound c.args.from c.args.to c.requires.beside _ _ c.requires.oldest.1 _ _ _ c.link.ensures c.place-at.ensures.start c.place-at.ensures.stop new c.apply.ensures in
    let r = change_refusal o memory c.requires.sound c.args.from c.args.to c.requires.beside _ _ c.requires.oldest.1 _ holds (change_is o.ranges c.args.message c.requires.change) in
    let back = put_back o memory 3 c.link.result at stop c.requires.sound.formed.whole (link_learned o c.args.from c.args.to c.link.result c.requires.beside c.link.ensures) c.place-at.ensures.start c.place-at.ensures.stop new l in
    refused_on o memory (Carry c.args.from c.args.to) c.in_err-settle.field-0.0 c.requires.sound (sym r ∙ c.in_err-settle.ensures.0) c.settle.new.memory
    (c.in_err-settle.ensures.1 ∙ ap (put_mid at (stop - at) (put_mid at (stop - at) memory new)) (c.deref.ensures.0 ∙ c.save-saved.ensures) ∙ back) _ c.from_residual.ensures.1

pub take_oldest-requires : goal.take_oldest-requires
take_oldest-requires c =
    record {
      formed =
          told_formed _ c.args.memory.now c.requires.sound c.args.from c.args.to c.requires.beside _ _ c.requires.oldest.1 _ (reached (goal.at.take_oldest-requires c).After-apply)
          (change_is _ c.args.message c.requires.change) c.settle.new.memory c.in_ok-settle.ensures.1;
      beside = c.requires.beside;
    }

pub returns : goal.returns
returns c =
    let o = c.args.opening.now in
    let memory = c.args.memory.now in
    let holds = reached (goal.at.returns c).After-apply in
    let change = change_is o.ranges c.args.message c.requires.change in
    let r = change_refusal o memory c.requires.sound c.args.from c.args.to c.requires.beside _ _ c.requires.oldest.1 _ holds change in
    change_done o memory c.requires.sound c.args.from c.args.to c.requires.beside _ _ c.requires.oldest.1 _ holds change c.settle.new.memory c.in_ok-settle.ensures.1
    c.take_oldest.new.memory c.take_oldest.ensures (sym r ∙ c.in_ok-settle.ensures.0)
