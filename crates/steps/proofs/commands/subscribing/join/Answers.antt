use Rattle.std.proofs.Common.{◌≡◌, ◌-◌, ltb, true, false, [], ◌∷◌, ◌++◌, length, get_or, Some, Ok, sym, refl, ap, ◌∙◌, subst, arith, rules}
use borrow.Rule.Slice.PartMut.{put_mid, put_same}
use borrow.Author.Tests.{tests}
use Rattle.std.specs.List.{between}
use Rattle.std.proofs.lemmas.Bool.{ltb-true, lt-ltb, le-ltb, cond-false}
use Rattle.broker.specs.Subscribers.{Holds, newcomer, subscribers, with_subscribers}
use Rattle.broker.proofs.Part.{count_held}
use Rattle.layout.specs.Plan.{many_of}
use Rattle.layout.specs.State.{network_of}
use Rattle.layout.specs.declared.command.Command.TheVariants.{Join}
use Rattle.layout.specs.declared.refusal.Refusal.TheVariants.{NumberUsed, BrokerFull}
use Rattle.steps.proofs.Lent.{lent_subscribers}
use Rattle.steps.proofs.Performing.{refused_performed, refused_on}
use Rattle.steps.proofs.Subscribing.{join_too_large, join_nowhere, join_used, join_full, join_tells, step_joined, standing_shape, standing_small, ready_to_tell, told_performed, back_performed}
use Rattle.steps.specs.Sound.{Performed}
use Rattle.steps.proofs.commands.subscribing.join.Goals as goal
use Rattle.steps.proofs.commands.subscribing.join.Goals.{After-deref}

pub returns-in_err-small_enough : goal.returns-in_err-small_enough
returns-in_err-small_enough c =
    let o = c.args.opening.now in
    let memory = c.args.memory.now in
    let e = c.in_err-small_enough.field-0.0 in
    refused_on o memory (Join c.args.broker c.args.number c.args.filter) e c.requires
    (join_too_large o (network_of o memory) c.args.broker c.args.number c.args.filter e c.in_err-small_enough.ensures) memory refl _ c.from_residual.ensures.1

pub returns-in_err-b : goal.returns-in_err-b
returns-in_err-b c =
    let o = c.args.opening.now in
    let memory = c.args.memory.now in
    let e = c.in_err-b.field-0.0 in
    refused_on o memory (Join c.args.broker c.args.number c.args.filter) e c.requires
    (join_nowhere o (network_of o memory) c.args.broker c.args.number c.args.filter c.in_ok-small_enough.ensures (le-ltb c.args.broker o.brokers c.in_err-b.ensures.1) ∙ ap Some (sym c.in_err-b.ensures.0)) memory refl _ c.from_residual-in_err-b.ensures.1

pub returns-then-used : goal.returns-then-used
returns-then-used c =
    let o = c.args.opening.now in
    let memory = c.args.memory.now in
    let l = rw c.in_ok-b.ensures.0 at c.in_ok-b.ensures.1 in
    refused_performed o memory (Join c.args.broker c.args.number c.args.filter) (NumberUsed c.args.number) c.requires
    (join_used o (network_of o memory) c.args.broker c.args.number c.args.filter c.in_ok-small_enough.ensures (lt-ltb c.args.broker o.brokers l) (sym c.used.ensures ∙ c.if-used.true))
    memory refl

pub place-at-requires : goal.place-at-requires
unfolding many_of
place-at-requires c = c.in_ok-b.ensures.1

pub save-saved-requires : goal.save-saved-requires
save-saved-requires c =
    standing_small _ c.args.memory.now c.requires c.in_ok-b.b _ _ c.in_ok-b.ensures.1 c.place-at.ensures.start c.place-at.ensures.stop

pub join-requires : goal.join-requires
join-requires c =
    (c.args.opening.now.valid.0.1, standing_shape _ c.args.memory.now c.requires c.in_ok-b.b _ _ c.in_ok-b.ensures.1 c.place-at.ensures.start c.place-at.ensures.stop)

pub returns-in_err-map_err : goal.returns-in_err-map_err
returns-in_err-map_err c =
    let o = c.args.opening.now in
    let memory = c.args.memory.now in
    let b = c.in_ok-b.b in
    let at = c.place-at.result.at in
    let stop = c.place-at.result.end in
    let there = c.in_ok-b.ensures.1 in
    let full : ltb (get_or (between at stop memory) 0 0) o.subscribers ≡ false = grind arith in
    let is : c.in_err-map_err.field-0.0 ≡ BrokerFull o.subscribers = search (rules, tests) in
    let st = lent_subscribers o memory c.requires.formed b at stop there c.place-at.ensures.start c.place-at.ensures.stop in
    let n = count_held o.subscribers o.ranges ((network_of o memory).subscribers b) (between at stop memory) st in
    let same : c.join.new.part ≡ between at stop memory =
    c.join.ensures.words ∙ cond-false (ltb (get_or (between at stop memory) 0 0) o.subscribers) (with_subscribers o.ranges (subscribers o.ranges (between at stop memory) ++ newcomer o.ranges c.args.number c.args.filter.bounds ∷ []) (between at stop memory)) (between at stop memory) full in
    let put = put_mid at (stop - at) memory c.join.new.part in
    subst (λ x. Performed o memory (Join x c.args.number c.args.filter) c.from_residual-in_err-map_err.result put) c.in_ok-b.ensures.0
    (refused_on o memory (Join b c.args.number c.args.filter) c.in_err-map_err.field-0.0 c.requires
    (join_full o (network_of o memory) b c.args.number c.args.filter c.in_ok-small_enough.ensures (lt-ltb b o.brokers there) (sym c.used.ensures ∙ c.if-used.false) (sym (ap (λ x. ltb x o.subscribers) n) ∙ full) ∙ ap Some (sym is))
    put (ap (put_mid at (stop - at) memory) same ∙ put_same at (stop - at) memory) _ c.from_residual-in_err-map_err.ensures.1)

-- there was room for the subscriber, and the part now holds it behind the others
room : (c : After-deref) → ltb (length ((network_of c.args.opening.now c.args.memory.now).subscribers c.in_ok-b.b)) c.args.opening.now.subscribers ≡ true
room c =
    let o = c.args.opening.now in
    let memory = c.args.memory.now in
    let b = c.in_ok-b.b in
    let at = c.place-at.result.at in
    let stop = c.place-at.result.end in
    let few : ltb (get_or (between at stop memory) 0 0) o.subscribers ≡ true = grind arith in
    let st = lent_subscribers o memory c.requires.formed b at stop c.in_ok-b.ensures.1 c.place-at.ensures.start c.place-at.ensures.stop in
    sym (ap (λ x. ltb x o.subscribers) (count_held o.subscribers o.ranges ((network_of o memory).subscribers b) (between at stop memory) st)) ∙ few

holds : (c : After-deref) →
    Holds c.args.opening.now.subscribers c.args.opening.now.ranges ((network_of c.args.opening.now c.args.memory.now).subscribers c.in_ok-b.b ++ newcomer c.args.opening.now.ranges c.args.number c.args.filter.bounds ∷ []) c.join.new.part
holds c =
    let o = c.args.opening.now in
    let memory = c.args.memory.now in
    let b = c.in_ok-b.b in
    let rs = (network_of o memory).subscribers b in
    let st = lent_subscribers o memory c.requires.formed b _ _ c.in_ok-b.ensures.1 c.place-at.ensures.start c.place-at.ensures.stop in
    c.join.ensures.holds rs st (ltb-true (length rs) o.subscribers (room c))

pub settle-requires-clause-ready : goal.settle-requires-clause-ready
settle-requires-clause-ready c =
    ready_to_tell _ c.args.memory.now c.requires c.in_ok-b.b _ _ c.in_ok-b.ensures.1 c.place-at.ensures.start c.place-at.ensures.stop _ c.join.new.part (holds (goal.at.settle-requires-clause-ready c).After-deref)

pub returns-in_err-settle : goal.returns-in_err-settle
returns-in_err-settle c =
    let o = c.args.opening.now in
    let memory = c.args.memory.now in
    let b = c.in_ok-b.b in
    let there = c.in_ok-b.ensures.1 in
    let d = (goal.at.returns-in_err-settle c).After-deref in
    let free = sym c.used.ensures ∙ c.if-used.false in
    subst (λ x. Performed o memory (Join x c.args.number c.args.filter) c.from_residual-in_err-settle.result c.settle.new.memory) c.in_ok-b.ensures.0
    (back_performed o memory c.requires b _ _ there c.place-at.ensures.start c.place-at.ensures.stop _ c.join.new.part (holds d) (Join b c.args.number c.args.filter)
    (join_tells o (network_of o memory) b c.args.number c.args.filter c.in_ok-small_enough.ensures (lt-ltb b o.brokers there) free (room d))
    c.in_err-settle.field-0.0 c.in_err-settle.ensures.0 c.deref.result.now (c.deref.ensures.0 ∙ c.save-saved.ensures)
    c.settle.new.memory c.in_err-settle.ensures.1 _ c.from_residual-in_err-settle.ensures.1)

pub returns : goal.returns
returns c =
    let o = c.args.opening.now in
    let memory = c.args.memory.now in
    let b = c.in_ok-b.b in
    let there = c.in_ok-b.ensures.1 in
    let d = (goal.at.returns c).After-deref in
    let free = sym c.used.ensures ∙ c.if-used.false in
    subst (λ x. Performed o memory (Join x c.args.number c.args.filter) (Ok 0) c.settle.new.memory) c.in_ok-b.ensures.0
    (told_performed o memory c.requires b _ _ there c.place-at.ensures.start c.place-at.ensures.stop _ c.join.new.part (holds d) (Join b c.args.number c.args.filter)
    (join_tells o (network_of o memory) b c.args.number c.args.filter c.in_ok-small_enough.ensures (lt-ltb b o.brokers there) free (room d))
    (step_joined o (network_of o memory) b c.args.number (newcomer o.ranges c.args.number c.args.filter.bounds).filter there free)
    c.in_ok-settle.ensures.0 c.settle.new.memory c.in_ok-settle.ensures.1)
