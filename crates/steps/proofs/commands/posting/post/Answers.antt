use Rattle.std.proofs.Common.{◌≡◌, ◌-◌, ◌<◌, ltb, true, false, ◌∷◌, length, take, Some, sym, refl, ap, ◌∙◌, subst, arith}
use borrow.Rule.Slice.PartMut.{put_mid}
use Rattle.std.proofs.lemmas.Bool.{lt-ltb, le-ltb}
use Rattle.model.specs.Tree.{has}
use Rattle.model.specs.Model.{arrive}
use Rattle.layout.specs.Plan.{many_of, size_of}
use Rattle.layout.specs.Parts.{tree}
use Rattle.layout.specs.State.{network_of, Encodes}
use Rattle.layout.specs.Changed.{with_numbers}
use Rattle.layout.specs.declared.command.Command.TheVariants.{Post}
use Rattle.layout.specs.declared.refusal.Refusal.TheVariants.{NoticeUsed, TooManyNotices}
use Rattle.routing.proofs.Arrivals.{posted_written}
use Rattle.steps.specs.Rules.{refusal_of}
use Rattle.layout.proofs.Encoded.{formed}
use Rattle.steps.proofs.Noticed.{room_for, room_alike, reaches_alike, alike_held, held_arrived, alike_posted, post_too_large, post_nowhere, post_used, post_full, post_asks, posted_room, posted_performed}
use Rattle.steps.proofs.Performing.{refused_performed, refused_on, refused_says, allowed_says}
use Rattle.steps.proofs.Posting.{posted_first, posted_has, posted_shape}
use Rattle.steps.proofs.commands.posting.post.Goals as goal
use Rattle.steps.proofs.commands.posting.post.Goals.{In_ok-b, Else-lists, Else-memory-at-ge-MOST_NOTICES, After-note}

pub returns-in_err-small_enough : goal.returns-in_err-small_enough
returns-in_err-small_enough c =
    let o = c.args.opening.now in
    let memory = c.args.memory.now in
    let e = c.in_err-small_enough.field-0.0 in
    refused_on o memory (Post c.args.broker c.args.number c.args.notice) e c.requires
    (post_too_large o (network_of o memory) c.args.broker c.args.number c.args.notice e c.in_err-small_enough.ensures) memory refl _ c.from_residual.ensures.1

pub returns-in_err-b : goal.returns-in_err-b
returns-in_err-b c =
    let o = c.args.opening.now in
    let memory = c.args.memory.now in
    refused_on o memory (Post c.args.broker c.args.number c.args.notice) c.in_err-b.field-0.0 c.requires
    (post_nowhere o (network_of o memory) c.args.broker c.args.number c.args.notice c.in_ok-small_enough.ensures (le-ltb c.args.broker o.brokers c.in_err-b.ensures.1) ∙ ap Some (sym c.in_err-b.ensures.0)) memory refl _ c.from_residual-in_err-b.ensures.1

pub place-at-requires : goal.place-at-requires
unfolding many_of
place-at-requires c = omega arith

pub lists-requires : goal.lists-requires
lists-requires c =
    let (l, n) = posted_shape _ c.args.memory.now c.requires.formed _ _ c.place-at.ensures.start c.place-at.ensures.stop in
    let f = c.requires.formed.posted.fits in
    (l, omega arith)

-- the broker is there
there : (c : In_ok-b) → ltb c.args.broker c.args.opening.now.brokers ≡ true
there c = lt-ltb c.args.broker c.args.opening.now.brokers (rw c.in_ok-b.ensures.0 at c.in_ok-b.ensures.1)

pub returns-then-lists : goal.returns-then-lists
returns-then-lists c =
    let o = c.args.opening.now in
    let memory = c.args.memory.now in
    let k = c.args.number in
    let used = sym (posted_has o memory c.requires.formed _ _ c.place-at.ensures.start c.place-at.ensures.stop k) ∙ sym c.lists.ensures ∙ c.if-lists.true in
    refused_performed o memory (Post c.args.broker k c.args.notice) (NoticeUsed k) c.requires
    (post_used o (network_of o memory) c.args.broker k c.args.notice c.in_ok-small_enough.ensures (there (goal.at.returns-then-lists c).In_ok-b) used)
    memory refl

-- no notice with this number was posted
free : (c : Else-lists) → has (network_of c.args.opening.now c.args.memory.now).posted c.args.number ≡ false
free c = sym (posted_has _ c.args.memory.now c.requires.formed _ _ c.place-at.ensures.start c.place-at.ensures.stop c.args.number) ∙ sym c.lists.ensures ∙ c.if-lists.false

pub bounds-memory-at : goal.bounds-memory-at
unfolding size_of
bounds-memory-at c = omega (arith, c.requires.formed.whole, c.place-at.ensures.start, c.place-at.ensures.stop, c.place-at.ensures.within)

pub returns-then-memory-at-ge-MOST_NOTICES : goal.returns-then-memory-at-ge-MOST_NOTICES
returns-then-memory-at-ge-MOST_NOTICES c =
    let o = c.args.opening.now in
    let memory = c.args.memory.now in
    let s = network_of o memory in
    let n = posted_first o memory c.requires.formed _ _ c.place-at.ensures.start c.place-at.ensures.stop in
    let d = goal.at.returns-then-memory-at-ge-MOST_NOTICES c in
    refused_performed o memory (Post c.args.broker c.args.number c.args.notice) (TooManyNotices 4096) c.requires
    (post_full o s c.args.broker c.args.number c.args.notice c.in_ok-small_enough.ensures (there d.In_ok-b) (free d.Else-lists) (le-ltb (length s.posted) 4096 (omega (arith, n, c.if-memory-at-ge-MOST_NOTICES.true))))
    memory refl

-- there is room for a number more, so the last rules are asked
few : (c : Else-memory-at-ge-MOST_NOTICES) → length (network_of c.args.opening.now c.args.memory.now).posted < 4096
few c =
    let n = posted_first _ c.args.memory.now c.requires.formed _ _ c.place-at.ensures.start c.place-at.ensures.stop in
    omega (arith, c.if-memory-at-ge-MOST_NOTICES.false)

asks : (c : Else-memory-at-ge-MOST_NOTICES) → has (network_of c.args.opening.now c.args.memory.now).posted c.args.number ≡ false →
    refusal_of c.args.opening.now (network_of c.args.opening.now c.args.memory.now) (Post c.args.broker c.args.number c.args.notice)
    ≡ room_for c.args.opening.now (network_of c.args.opening.now c.args.memory.now) c.args.broker c.args.broker c.args.number (take c.args.opening.now.ranges c.args.notice.numbers)
asks c free =
    let o = c.args.opening.now in
    let s = network_of o c.args.memory.now in
    post_asks o s c.args.broker c.args.number c.args.notice c.in_ok-small_enough.ensures (lt-ltb c.args.broker o.brokers (rw c.in_ok-b.ensures.0 at c.in_ok-b.ensures.1)) free (lt-ltb (length s.posted) 4096 (few c))

pub returns-in_err-refused : goal.returns-in_err-refused
returns-in_err-refused c =
    let o = c.args.opening.now in
    let memory = c.args.memory.now in
    let e = c.in_err-refused.field-0.0 in
    let d = goal.at.returns-in_err-refused c in
    refused_on o memory (Post c.args.broker c.args.number c.args.notice) e c.requires
    (asks d.Else-memory-at-ge-MOST_NOTICES (free d.Else-lists) ∙ rw c.in_ok-b.ensures.0 at (refused_says _ _ e c.in_err-refused.ensures))
    memory refl _ c.from_residual-in_err-refused.ensures.1

pub note-requires : goal.note-requires
note-requires c =
    let (l, n) = posted_shape _ c.args.memory.now c.requires.formed _ _ c.place-at.ensures.start c.place-at.ensures.stop in
    (l, omega (arith, n, few (goal.at.note-requires c).Else-memory-at-ge-MOST_NOTICES))

-- the number is noted
noted : (c : After-note) →
    Encodes c.args.opening.now (put_mid c.place-at.result.at (c.place-at.result.end - c.place-at.result.at) c.args.memory.now c.note.new.log)
    (with_numbers (network_of c.args.opening.now c.args.memory.now) (c.args.number ∷ (network_of c.args.opening.now c.args.memory.now).posted))
noted c = posted_written _ c.args.memory.now _ c.requires.formed _ _ c.place-at.ensures.start c.place-at.ensures.stop c.args.number c.note.new.log c.note.ensures.holds

pub arrive-requires : goal.arrive-requires
arrive-requires c =
    let o = c.args.opening.now in
    let s = network_of o c.args.memory.now in
    let b = c.in_ok-b.b in
    let m = c.args.broker in
    let k = c.args.number in
    let e = take o.ranges c.args.notice.numbers in
    let after = put_mid c.place-at.result.at (c.place-at.result.end - c.place-at.result.at) c.args.memory.now c.note.new.log in
    let u = with_numbers s (k ∷ s.posted) in
    let d = goal.at.arrive-requires c in
    let f = noted d.After-note in
    let like = alike_held o after s u b f (alike_posted s b (k ∷ s.posted)) in
    record {
      formed = formed o after u f;
      there = c.in_ok-b.ensures.1;
      reaches = reaches_alike o s (network_of o after) b m k e like c.find-reach.result c.find-reach.ensures;
      room = sym (room_alike o s (network_of o after) b m k e like) ∙ allowed_says _ _ _ c.in_ok-refused.ensures;
      new = held_arrived o after u b f (posted_room o c.args.memory.now c.requires b (few d.Else-memory-at-ge-MOST_NOTICES));
    }

pub returns : goal.returns
returns c =
    let o = c.args.opening.now in
    let b = c.args.broker in
    let i = c.in_ok-b.ensures.0 in
    let after = put_mid c.place-at.result.at (c.place-at.result.end - c.place-at.result.at) c.args.memory.now c.note.new.log in
    let d = goal.at.returns c in
    posted_performed o c.args.memory.now c.requires b c.args.number c.args.notice c.find-reach.result (rw i at c.in_ok-b.ensures.1) (rw i at c.find-reach.ensures) (free d.Else-lists)
    (asks d.Else-memory-at-ge-MOST_NOTICES (free d.Else-lists) ∙ rw i at (allowed_says _ _ _ c.in_ok-refused.ensures))
    after c.arrive.new.memory (noted d.After-note)
    (subst (λ a. Encodes o c.arrive.new.memory (arrive (tree o) a b c.args.number (take o.ranges c.args.notice.numbers) (network_of o after))) i c.arrive.ensures)
