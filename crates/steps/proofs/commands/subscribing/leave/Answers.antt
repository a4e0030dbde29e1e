use Rattle.std.proofs.Common.{◌≡◌, ◌-◌, true, false, Some, Ok, sym, refl, ap, ◌∙◌, subst, arith, rules}
use borrow.Rule.Slice.PartMut.{put_mid, put_same}
use borrow.Author.Tests.{tests}
use Rattle.std.specs.List.{between}
use Rattle.std.proofs.lemmas.Bool.{lt-ltb, le-ltb}
use Rattle.broker.specs.Subscribers.{Holds, subscribers, known, dropped}
use Rattle.broker.proofs.Part.{left_none}
use Rattle.layout.specs.Plan.{many_of}
use Rattle.layout.specs.State.{network_of}
use Rattle.layout.specs.declared.command.Command.TheVariants.{Leave}
use Rattle.layout.specs.declared.refusal.Refusal.TheVariants.{NotSubscribed}
use Rattle.steps.specs.Sound.{Performed}
use Rattle.steps.proofs.Lent.{lent_subscribers, subscribers_there, subscribers_whole}
use Rattle.steps.proofs.Performing.{refused_on}
use Rattle.steps.proofs.Subscribing.{leave_too_large, leave_nowhere, leave_absent, leave_tells, step_left, standing_small, ready_to_tell, told_performed, back_performed}
use Rattle.steps.proofs.commands.subscribing.leave.Goals as goal
use Rattle.steps.proofs.commands.subscribing.leave.Goals.{After-deref}

pub returns-in_err-small_enough : goal.returns-in_err-small_enough
returns-in_err-small_enough c =
    let o = c.args.opening.now in
    let memory = c.args.memory.now in
    let e = c.in_err-small_enough.field-0.0 in
    refused_on o memory (Leave c.args.broker c.args.number) e c.requires
    (leave_too_large o (network_of o memory) c.args.broker c.args.number e c.in_err-small_enough.ensures) memory refl _ c.from_residual.ensures.1

pub returns-in_err-b : goal.returns-in_err-b
returns-in_err-b c =
    let o = c.args.opening.now in
    let memory = c.args.memory.now in
    refused_on o memory (Leave c.args.broker c.args.number) c.in_err-b.field-0.0 c.requires
    (leave_nowhere o (network_of o memory) c.args.broker c.args.number c.in_ok-small_enough.ensures (le-ltb c.args.broker o.brokers c.in_err-b.ensures.1) ∙ ap Some (sym c.in_err-b.ensures.0)) memory refl _ c.from_residual-in_err-b.ensures.1

pub place-at-requires : goal.place-at-requires
unfolding many_of
place-at-requires c = c.in_ok-b.ensures.1

pub save-saved-requires : goal.save-saved-requires
save-saved-requires c =
    standing_small _ c.args.memory.now c.requires c.in_ok-b.b _ _ c.in_ok-b.ensures.1 c.place-at.ensures.start c.place-at.ensures.stop

pub leave-requires : goal.leave-requires
leave-requires c =
    (c.args.opening.now.valid.0.1, subscribers_whole _ c.args.memory.now c.requires.formed c.in_ok-b.b _ _ c.in_ok-b.ensures.1 c.place-at.ensures.start c.place-at.ensures.stop)

pub returns-in_err-map_err : goal.returns-in_err-map_err
returns-in_err-map_err c =
    let o = c.args.opening.now in
    let memory = c.args.memory.now in
    let b = c.in_ok-b.b in
    let at = c.place-at.result.at in
    let stop = c.place-at.result.end in
    let there = c.in_ok-b.ensures.1 in
    let absent : known c.args.number (subscribers o.ranges (between at stop memory)) ≡ false = grind arith in
    let is : c.in_err-map_err.field-0.0 ≡ NotSubscribed c.args.number = search (rules, tests) in
    let s = subscribers_there o memory c.requires.formed b at stop there c.place-at.ensures.start c.place-at.ensures.stop in
    let whole = subscribers_whole o memory c.requires.formed b at stop there c.place-at.ensures.start c.place-at.ensures.stop in
    let same : c.leave.new.part ≡ between at stop memory = c.leave.ensures.words ∙ sym (left_none o.ranges c.args.number (between at stop memory) whole absent) in
    let put = put_mid at (stop - at) memory c.leave.new.part in
    subst (λ x. Performed o memory (Leave x c.args.number) c.from_residual-in_err-map_err.result put) c.in_ok-b.ensures.0
    (refused_on o memory (Leave b c.args.number) c.in_err-map_err.field-0.0 c.requires
    (leave_absent o (network_of o memory) b c.args.number c.in_ok-small_enough.ensures (lt-ltb b o.brokers there) (sym (ap (known c.args.number) s) ∙ absent) ∙ ap Some (sym is))
    put (ap (put_mid at (stop - at) memory) same ∙ put_same at (stop - at) memory) _ c.from_residual-in_err-map_err.ensures.1)

-- the subscriber was there, and the part now holds the others
was_there : (c : After-deref) → known c.args.number ((network_of c.args.opening.now c.args.memory.now).subscribers c.in_ok-b.b) ≡ true
was_there c =
    let o = c.args.opening.now in
    let memory = c.args.memory.now in
    let is_there : known c.args.number (subscribers o.ranges (between c.place-at.result.at c.place-at.result.end memory)) ≡ true = grind arith in
    sym (ap (known c.args.number) (subscribers_there o memory c.requires.formed c.in_ok-b.b _ _ c.in_ok-b.ensures.1 c.place-at.ensures.start c.place-at.ensures.stop)) ∙ is_there

holds : (c : After-deref) →
    Holds c.args.opening.now.subscribers c.args.opening.now.ranges (dropped c.args.number ((network_of c.args.opening.now c.args.memory.now).subscribers c.in_ok-b.b)) c.leave.new.part
holds c =
    let o = c.args.opening.now in
    let memory = c.args.memory.now in
    c.leave.ensures.holds o.subscribers ((network_of o memory).subscribers c.in_ok-b.b)
    (lent_subscribers o memory c.requires.formed c.in_ok-b.b _ _ c.in_ok-b.ensures.1 c.place-at.ensures.start c.place-at.ensures.stop)

pub settle-requires-clause-ready : goal.settle-requires-clause-ready
settle-requires-clause-ready c =
    ready_to_tell _ c.args.memory.now c.requires c.in_ok-b.b _ _ c.in_ok-b.ensures.1 c.place-at.ensures.start c.place-at.ensures.stop _ c.leave.new.part (holds (goal.at.settle-requires-clause-ready c).After-deref)

pub returns-in_err-settle : goal.returns-in_err-settle
returns-in_err-settle c =
    let o = c.args.opening.now in
    let memory = c.args.memory.now in
    let b = c.in_ok-b.b in
    let there = c.in_ok-b.ensures.1 in
    let d = (goal.at.returns-in_err-settle c).After-deref in
    subst (λ x. Performed o memory (Leave x c.args.number) c.from_residual-in_err-settle.result c.settle.new.memory) c.in_ok-b.ensures.0
    (back_performed o memory c.requires b _ _ there c.place-at.ensures.start c.place-at.ensures.stop _ c.leave.new.part (holds d) (Leave b c.args.number)
    (leave_tells o (network_of o memory) b c.args.number c.in_ok-small_enough.ensures (lt-ltb b o.brokers there) (was_there d))
    c.in_err-settle.field-0.0 c.in_err-settle.ensures.0 c.deref.result.now (c.deref.ensures.0 ∙ c.save-saved.ensures)
    c.settle.new.memory c.in_err-settle.ensures.1 _ c.from_residual-in_err-settle.ensures.1)

pub returns : goal.returns
returns c =
    let o = c.args.opening.now in
    let memory = c.args.memory.now in
    let b = c.in_ok-b.b in
    let there = c.in_ok-b.ensures.1 in
    let d = (goal.at.returns c).After-deref in
    subst (λ x. Performed o memory (Leave x c.args.number) (Ok 0) c.settle.new.memory) c.in_ok-b.ensures.0
    (told_performed o memory c.requires b _ _ there c.place-at.ensures.start c.place-at.ensures.stop _ c.leave.new.part (holds d) (Leave b c.args.number)
    (leave_tells o (network_of o memory) b c.args.number c.in_ok-small_enough.ensures (lt-ltb b o.brokers there) (was_there d))
    (step_left o (network_of o memory) b c.args.number there (was_there d))
    c.in_ok-settle.ensures.0 c.settle.new.memory c.in_ok-settle.ensures.1)
