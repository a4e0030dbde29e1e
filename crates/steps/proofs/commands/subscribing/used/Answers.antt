use Rattle.std.proofs.Common.{◌≡◌, ℕ, zero, suc, ◌+◌, ◌-◌, ◌<◌, ◌≤◌, Bool, true, false, ◌||◌, ◌⊎◌, List, length, sym, inl, inr, arith, rules}
use Rattle.std.specs.Bool.{MatchBool}
use Rattle.std.specs.List.{AllWithin, HoldsAt, range_with_len}
use Rattle.std.proofs.lemmas.Bool.{or_left, or_right, or_from, cases_eq}
use Rattle.std.proofs.lemmas.Iterator.{cases_from_any, YieldsList-from_range}
use borrow.Author.Tests.{tests}
use Rattle.model.specs.Model.{Subscriber, known, known_up_to}
use Rattle.layout.specs.State.{network_of}
use Rattle.steps.proofs.Ranges.{each_in_range, one_in_range}
use Rattle.steps.proofs.commands.subscribing.used.Goals as goal

-- one broker has the number, or none has
known_there : (n : ℕ) (subs : ℕ → List Subscriber) (k b : ℕ) → b ≤ k → known n (subs b) ≡ true → known_up_to n subs k ≡ true
unfolding known_up_to
known_there n subs zero b l e =
    let z : b ≡ 0 = omega arith in
    rw z at e
known_there n subs (suc k) b l e = go (cases_eq b (suc k)) (known_there n subs k b)
  where
    go : (b ≡ suc k) ⊎ (b ≡ suc k → ⊥) → (b ≤ k → known n (subs b) ≡ true → known_up_to n subs k ≡ true) → (known n (subs (suc k)) || known_up_to n subs k) ≡ true
    go (inl q) r = or_left (known n (subs (suc k))) (known_up_to n subs k) (rw q at e)
    go (inr q) r = or_right (known n (subs (suc k))) (known_up_to n subs k) (r (omega arith) e)

known_nowhere : (n : ℕ) (subs : ℕ → List Subscriber) (k : ℕ) → ((b : ℕ) → b < suc k → known n (subs b) ≡ false) → known_up_to n subs k ≡ false
unfolding known_up_to
known_nowhere n subs zero h = h 0 (omega arith)
known_nowhere n subs (suc k) h =
    or_from (known n (subs (suc k))) (known_up_to n subs k) (h (suc k) (omega arith)) (known_nowhere n subs k (λ b l. h b (omega arith)))

known_somewhere : (n : ℕ) (subs : ℕ → List Subscriber) (k j : ℕ) (r : Bool) → j ≡ suc k →
    MatchBool r ((i : ℕ) × (i < length (range_with_len 0 j)) × HoldsAt (λ b. known n (subs b) ≡ true) (range_with_len 0 j) i) (AllWithin (λ b. known n (subs b) ≡ false) (range_with_len 0 j) 0 (length (range_with_len 0 j))) →
    r ≡ known_up_to n subs k
known_somewhere n subs k j true q (i, l, h) =
    let (b, e) = one_in_range (λ b. known n (subs b) ≡ true) 0 j i l h in
    sym (known_there n subs k (0 + i) (omega arith) e)
known_somewhere n subs k j false q h = sym (known_nowhere n subs k (λ b l. each_in_range (λ b. known n (subs b) ≡ false) 0 j h b (omega arith) (omega arith)))

pub returns : goal.returns
returns c =
    let o = c.args.opening.now in
    let number = c.args.number in
    let subs = (network_of o c.args.memory.now).subscribers in
    let v = o.valid.1.0 in
    let a = cases_from_any _ _ _ (λ b. known number (subs b) ≡ true) (λ b. known number (subs b) ≡ false) c.any.ensures.ran (YieldsList-from_range 0 o.brokers o.brokers (cc) (omega arith)) (λ x q k. search (rules, tests)) (λ x q k. search (rules, tests)) in
    known_somewhere number subs (o.brokers - 1) o.brokers c.any.result (omega arith) a
