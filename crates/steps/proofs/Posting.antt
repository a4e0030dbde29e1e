-- The numbers of the notices that were posted, as the part of the memory between `at` and `stop` holds them.
use Rattle.std.proofs.Common.{◌≡◌, ℕ, ◌+◌, List, length, get_or, sym, ap, ◌∙◌, arith}
use Rattle.std.specs.List.{between}
use Rattle.model.specs.Tree.{has}
use Rattle.layout.specs.Plan.{size_of, start_of}
use Rattle.layout.specs.Parts.{plan_of}
use Rattle.layout.specs.State.{network_of, Formed}
use Rattle.layout.specs.Logs.{numbers}
use Rattle.layout.specs.declared.opening.Opening.{Opening}
use Rattle.layout.proofs.Logged.{lists_read, lists_length, lists_count}
use Rattle.routing.proofs.Arrivals.{first_word, lent_posted}

module _ (o : Opening) (memory : List ℕ) (h : Formed o memory) (at stop : ℕ) (q : at ≡ start_of (plan_of o) 5 0) (r : stop ≡ start_of (plan_of o) 5 0 + size_of (plan_of o) 5) where
  -- the first word counts them
  pub posted_first : get_or memory at 0 ≡ length (network_of o memory).posted
  unfolding size_of
  posted_first = sym (first_word at stop memory (omega arith)) ∙ lists_count _ _ (lent_posted o memory (network_of o memory) h at stop q r)

  pub posted_has : (k : ℕ) → has (numbers (between at stop memory)) k ≡ has (network_of o memory).posted k
  posted_has k = ap (λ ks. has ks k) (lists_read _ _ (lent_posted o memory (network_of o memory) h at stop q r))

  pub posted_shape : (length (between at stop memory) ≡ 4097) × (get_or (between at stop memory) 0 0 ≡ length (network_of o memory).posted)
  posted_shape =
      let p = lent_posted o memory (network_of o memory) h at stop q r in
      (lists_length _ _ p, lists_count _ _ p)
