-- A part that was changed, put back from the words that were saved.
use Rattle.std.proofs.Common.{◌≡◌, ℕ, ◌+◌, ◌-◌, ◌<◌, ◌≤◌, List, length, ap, ◌∙◌}
use borrow.Rule.Slice.PartMut.{put_mid}
use Rattle.std.specs.List.{between}
use Rattle.layout.specs.Plan.{words_of, many_of, size_of, start_of, part, with_part}
use Rattle.layout.specs.Parts.{plan_of}
use Rattle.layout.specs.declared.opening.Opening.{Opening}
use Rattle.layout.proofs.Written.{lent, lent_part, restored}

-- the i-th part of kind k, lent from `at` to `stop`, was written: with the words that were there put back the memory is as it was
pub put_back :
    (o : Opening) (memory : List ℕ) (k i at stop : ℕ) → words_of (plan_of o) ≤ length memory → i < many_of (plan_of o) k → at ≡ start_of (plan_of o) k i →
    stop ≡ start_of (plan_of o) k i + size_of (plan_of o) k → (new : List ℕ) → length new ≡ size_of (plan_of o) k →
    put_mid at (stop - at) (put_mid at (stop - at) memory new) (between at stop memory) ≡ memory
put_back o memory k i at stop w h q r new l =
    let z = plan_of o in
    ap (λ xs. put_mid at (stop - at) (put_mid at (stop - at) memory new) xs) (lent_part z k i at stop memory q r)
    ∙ ap (λ xs. put_mid at (stop - at) xs (part z memory k i)) (lent z k i at stop memory new q r)
    ∙ lent z k i at stop (with_part z memory k i new) (part z memory k i) q r
    ∙ restored z memory new k i w h l
