use Rattle.std.proofs.Common.{◌≡◌, ◌+◌, ◌*◌, ◌≤◌, length, get_or, ap, ◌∙◌, mul-le-mul_left, arith}
use Rattle.std.proofs.lemmas.List.{length-append}
use Rattle.cover.specs.Table.{laid, inserted_all}
use Rattle.broker.specs.Subscribers.{subscribers, filters_of}
use Rattle.broker.specs.Announcing.{others, known_but}
use Rattle.broker.proofs.Gathered.{count_cleared, length_own, gathered_none, gathered_skip, gathered_room, gathered_more, gathered_all, announced_all}
use Rattle.broker.proofs.announcing.to_announce.Goals as goal
use Rattle.broker.proofs.announcing.to_announce.Goals.{then-neighbour-but, else-neighbour-but}

pub gather-requires-clause-room : goal.gather-requires-clause-room
gather-requires-clause-room c =
    let e = ap (λ t. get_or t 0 0) (c.fill.ensures.after (λ y q. q)) ∙ count_cleared (length c.args.out.now) in
    let a = length-append (filters_of (subscribers c.args.m c.args.own.now)) (others c.args.m c.args.neighbours.now c.args.but) in
    let l = length_own c.args.m c.args.own.now in
    let n = c.fill.ensures.len in
    let r = c.requires.room in
    let k : get_or c.fill.new.self 0 0 + get_or c.args.own.now 0 0 ≤ length (known_but c.args.m (subscribers c.args.m c.args.own.now) c.args.neighbours.now c.args.but) = omega arith in
    let p = mul-le-mul_left (2 * c.args.m) k in
    omega arith

pub loop-neighbour-init : goal.loop-neighbour-init
loop-neighbour-init c =
    let e = c.fill.ensures.after (λ y q. q) in
    let l : length c.gather.new.table ≡ length c.args.out.now = omega arith in
    gathered_none _ _ _ _ _ (rw l (c.gather.ensures ∙ ap (inserted_all (2 * c.args.m) (filters_of (subscribers c.args.m c.args.own.now))) e))

pub gather-requires-then-neighbour-but-clause-room : goal.gather-requires-then-neighbour-but-clause-room
gather-requires-then-neighbour-but-clause-room c =
    let l : length c.loop-neighbour.out ≡ length c.args.out.now = omega arith in
    gathered_room _ _ _ _ _ _ _ c.loop-neighbour-test.true c.loop-neighbour.invariant c.if-neighbour-but.true _ (rw l c.requires.room)

pub loop-neighbour-preserved : goal.loop-neighbour-preserved
loop-neighbour-preserved c =
    elim c.if-neighbour-but.branch [
      | then-neighbour-but w ↦
          let l : length w.gather-then-neighbour-but.new.out ≡ length c.loop-neighbour.out = omega arith in
          rw w.out-is (gathered_more _ _ _ _ _ _ _ c.loop-neighbour-test.true c.loop-neighbour.invariant w.if-neighbour-but.true _ l w.gather-then-neighbour-but.ensures)
      | else-neighbour-but w ↦
          rw w.out-is (gathered_skip _ _ _ _ _ _ _ c.loop-neighbour-test.true c.loop-neighbour.invariant w.if-neighbour-but.false)
    ]

pub returns : goal.returns
returns c =
    let l : length c.loop-neighbour.out ≡ length c.args.out.now = omega arith in
    let w = rw l at (gathered_all _ _ _ _ _ _ c.loop-neighbour-test.false c.loop-neighbour.invariant c.requires.whole c.requires.learned (rw l c.requires.room)) in
    record { words = w; model = λ table h. w ∙ ap (laid (2 * c.args.m) (length c.args.out.now)) (announced_all _ _ _ _ _ h) }
