use Rattle.std.proofs.Common.{length, Some, ◌∙◌, sym, refl, ap, subst, arith}
use Rattle.std.proofs.lemmas.Bool.{lt-ltb, le-ltb}
use Rattle.layout.specs.State.{network_of, Encodes}
use Rattle.layout.specs.declared.command.Command.TheVariants.{Carry}
use Rattle.layout.specs.declared.refusal.Refusal.TheVariants.{NotBeside}
use Rattle.layout.proofs.Carried.{carries_shape}
use Rattle.steps.proofs.Carrying.{carry_no_first, carry_no_second, carry_not_beside, carry_refusal_none, carry_step_none}
use Rattle.steps.proofs.Oldest.{nothing_there, oldest_is, oldest_notice, no_notice}
use Rattle.steps.proofs.Performing.{refused_performed, refused_on, done_performed}
use Rattle.routing.proofs.Sendings.{link_channel, lent_channel}
use Rattle.steps.proofs.commands.carrying.carry.Goals as goal

pub returns-in_err-a : goal.returns-in_err-a
returns-in_err-a c =
    let o = c.args.opening.now in
    let memory = c.args.memory.now in
    refused_on o memory (Carry c.args.from c.args.to) c.in_err-a.field-0.0 c.requires
    (carry_no_first o (network_of o memory) c.args.from c.args.to (le-ltb c.args.from o.brokers c.in_err-a.ensures.1) ∙ ap Some (sym c.in_err-a.ensures.0)) memory refl _ c.from_residual.ensures.1

pub returns-in_err-b : goal.returns-in_err-b
returns-in_err-b c =
    let o = c.args.opening.now in
    let memory = c.args.memory.now in
    let (a, p) = c.in_ok-a.ensures in
    refused_on o memory (Carry c.args.from c.args.to) c.in_err-b.field-0.0 c.requires
    (carry_no_second o (network_of o memory) c.args.from c.args.to (lt-ltb c.args.from o.brokers (rw a at p)) (le-ltb c.args.to o.brokers c.in_err-b.ensures.1) ∙ ap Some (sym c.in_err-b.ensures.0)) memory refl _ c.from_residual-in_err-b.ensures.1

pub returns-then-not-hang_together : goal.returns-then-not-hang_together
returns-then-not-hang_together c =
    let o = c.args.opening.now in
    let memory = c.args.memory.now in
    let (a, p) = c.in_ok-a.ensures in
    let (b, q) = c.in_ok-b.ensures in
    let h = c.if-not-hang_together.ensures.beside in
    refused_performed o memory (Carry c.args.from c.args.to) (NotBeside c.args.to) c.requires
    (carry_not_beside o (network_of o memory) c.args.from c.args.to (lt-ltb c.args.from o.brokers (rw a at p)) (lt-ltb c.args.to o.brokers (rw b at q)) (rw (a, b) at (sym h))) memory refl

pub place-at-requires : goal.place-at-requires
place-at-requires c = link_channel c.args.opening.now c.in_ok-a.a c.in_ok-b.b c.link.result (sym c.if-not-hang_together.ensures.answer) c.link.ensures

pub get-requires : goal.get-requires
get-requires c =
    let o = c.args.opening.now in
    let k = lent_channel o c.args.memory.now c.requires.formed c.in_ok-a.a c.in_ok-b.b (sym c.if-not-hang_together.ensures.answer) c.link.result c.place-at.result.at c.place-at.result.end c.link.ensures c.place-at.ensures.start c.place-at.ensures.stop in
    (o.valid.0.1, carries_shape o.messages o.ranges _ _ k)

pub returns-in_default : goal.returns-in_default
returns-in_default c =
    let o = c.args.opening.now in
    let memory = c.args.memory.now in
    let s = network_of o memory in
    let e = sym c.if-not-hang_together.ensures.answer in
    let k = lent_channel o memory c.requires.formed c.in_ok-a.a c.in_ok-b.b e c.link.result c.place-at.result.at c.place-at.result.end c.link.ensures c.place-at.ensures.start c.place-at.ensures.stop in
    let q = nothing_there o.ranges (s.channel c.in_ok-a.a c.in_ok-b.b) _ (c.in_default.ensures.holds _ _ k.rows) in
    let r = carry_step_none o s c.in_ok-a.a c.in_ok-b.b e q in
    let done = done_performed o memory (Carry c.in_ok-a.a c.in_ok-b.b) 0 c.requires (carry_refusal_none o s c.in_ok-a.a c.in_ok-b.b e q) memory (subst (Encodes o memory) (sym r) c.requires.formed)
    (let d = ap (λ u. length u.deliveries) r in omega arith) in
    let a = c.in_ok-a.ensures.0 in
    let b = c.in_ok-b.ensures.0 in
    rw (a, b) at done

pub carry_notice-requires : goal.carry_notice-requires
carry_notice-requires c =
    let o = c.args.opening.now in
    let memory = c.args.memory.now in
    let e = sym c.if-not-hang_together.ensures.answer in
    let k = lent_channel o memory c.requires.formed c.in_ok-a.a c.in_ok-b.b e c.link.result c.place-at.result.at c.place-at.result.end c.link.ensures c.place-at.ensures.start c.place-at.ensures.stop in
    record {
      sound = c.requires;
      beside = e;
      oldest = oldest_notice o.messages o.ranges _ _ k o.valid.0.1 c.in-Some.message (c.in-Some.ensures.holds _ _ k.rows) c.in-Notice.number c.in-Notice.notice c.in-Notice.is;
    }

pub carry_change-requires : goal.carry_change-requires
carry_change-requires c =
    let o = c.args.opening.now in
    let memory = c.args.memory.now in
    let e = sym c.if-not-hang_together.ensures.answer in
    let k = lent_channel o memory c.requires.formed c.in_ok-a.a c.in_ok-b.b e c.link.result c.place-at.result.at c.place-at.result.end c.link.ensures c.place-at.ensures.start c.place-at.ensures.stop in
    record {
      sound = c.requires;
      beside = e;
      oldest = oldest_is o.messages o.ranges _ _ k o.valid.0.1 c.in-Some.message (c.in-Some.ensures.holds _ _ k.rows);
      change = no_notice c.in-Some.message c.in-Add.is;
    }

pub returns-in-Notice : goal.returns-in-Notice
returns-in-Notice c =
    let a = c.in_ok-a.ensures.0 in
    let b = c.in_ok-b.ensures.0 in
    rw (a, b) at c.carry_notice.ensures

pub returns-in-Add : goal.returns-in-Add
returns-in-Add c =
    let a = c.in_ok-a.ensures.0 in
    let b = c.in_ok-b.ensures.0 in
    rw (a, b) at c.carry_change.ensures
