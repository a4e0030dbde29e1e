use Rattle.std.proofs.Common.{◌≡◌, ◌+◌, ◌*◌, ◌≤◌, arith}
use Rattle.layout.specs.Plan.{words_of, start_of}
use Rattle.layout.specs.Parts.{plan_of}
use Rattle.layout.specs.Kinds.{kind_number}
use Rattle.layout.proofs.Spans.{spans}
use Rattle.layout.proofs.parts.place.Goals as goal

-- where the part lies, and that all words together can be counted
lies : (c : goal.After-first-base) →
    (c.first-base.result.0 + c.args.i * c.first-base.result.1 ≡ start_of (plan_of c.args.opening.now) (kind_number c.args.kind) c.args.i)
    × (c.first-base.result.0 + c.args.i * c.first-base.result.1 + c.first-base.result.1 ≤ words_of (plan_of c.args.opening.now))
    × (words_of (plan_of c.args.opening.now) ≤ 18848986)
lies c = spans c.args.opening.now (kind_number c.args.kind) c.args.i c.first-base.result.0 c.first-base.result.1 c.requires c.first-base.ensures.0 c.first-base.ensures.1

pub overflow_mul-at : goal.overflow_mul-at
overflow_mul-at c =
    let s = lies c in
    omega arith

pub overflow_add-at : goal.overflow_add-at
overflow_add-at c =
    let s = lies c in
    omega arith

pub overflow_add-result : goal.overflow_add-result
overflow_add-result c =
    let s = lies c in
    omega arith

pub returns : goal.returns
returns c =
    let s = lies c in
    record { start = s.0; stop = omega (arith, c.first-base.ensures.1); within = s.1 }
