use Rattle.std.proofs.Common.{◌≡◌, ℕ, zero, suc, ◌+◌, ◌^◌, ◌<◌, ◌≤◌, ltb, List, [], ◌∷◌, length, get_or, Some, None, refl, ap, ◌∙◌, arith, rules}
use Rattle.std.proofs.lemmas.Bool.{lt-ltb, le-ltb, cond-true, cond-false}
use Rattle.std.proofs.lemmas.Iterator.{IsFirst-from_position, YieldsList-from_slice}
use borrow.Author.Tests.{tests}
use Rattle.layout.specs.declared.refusal.Refusal.TheVariants.{NumberTooLarge}
use Rattle.steps.specs.Rules.{too_large}
use Rattle.steps.proofs.commands.shared.small_enough.Goals as goal

-- a number is small enough, or it is not
small : (place x : ℕ) (xs : List ℕ) → x < 4294967296 → too_large place (x ∷ xs) ≡ too_large (suc place) xs
unfolding too_large
small place x xs h = cond-true (ltb x (2 ^ 32)) (too_large (suc place) xs) (Some (NumberTooLarge place)) (lt-ltb x (2 ^ 32) h)

large : (place x : ℕ) (xs : List ℕ) → 4294967296 ≤ x → too_large place (x ∷ xs) ≡ Some (NumberTooLarge place)
unfolding too_large
large place x xs h = cond-false (ltb x (2 ^ 32)) (too_large (suc place) xs) (Some (NumberTooLarge place)) (le-ltb x (2 ^ 32) h)

-- the first number of a list that is not is the one that is refused
first_large : (place : ℕ) (xs : List ℕ) (i : ℕ) → i < length xs → 4294967296 ≤ get_or xs i 0 → ((k : ℕ) → k < i → get_or xs k 0 < 4294967296) →
    too_large place xs ≡ Some (NumberTooLarge (i + place))
first_large place [] i l h s = absurd (omega arith)
first_large place (x ∷ xs) zero l h s =
    let e : place ≡ 0 + place = omega arith in
    large place x xs h ∙ ap (λ p. Some (NumberTooLarge p)) e
first_large place (x ∷ xs) (suc i) l h s =
    let e : i + suc place ≡ suc i + place = omega arith in
    small place x xs (s 0 (omega arith)) ∙ first_large (suc place) xs i (omega arith) h (λ k b. s (suc k) (omega arith)) ∙ ap (λ p. Some (NumberTooLarge p)) e

none_large : (place : ℕ) (xs : List ℕ) → ((k : ℕ) → k < length xs → get_or xs k 0 < 4294967296) → too_large place xs ≡ None
unfolding too_large
none_large place [] s = refl
none_large place (x ∷ xs) s = small place x xs (s 0 (omega arith)) ∙ none_large (suc place) xs (λ k b. s (suc k) (omega arith))

pub returns-then-number-ge-LIMIT : goal.returns-then-number-ge-LIMIT
returns-then-number-ge-LIMIT c = large 1 c.args.number c.args.numbers.now c.if-number-ge-LIMIT.true

pub returns-in-Some : goal.returns-in-Some
returns-in-Some c =
    let xs = c.args.numbers.now in
    let p = IsFirst-from_position _ _ _ (λ x. 4294967296 ≤ x) (λ x. x < 4294967296) c.position.ensures.ran (YieldsList-from_slice xs cc) (λ x q k. search (rules, tests)) (λ x q k. search (rules, tests)) in
    let q = rw c.in-Some.is at p in
    small 1 c.args.number xs c.if-number-ge-LIMIT.false ∙ first_large 2 xs c.in-Some.i q.0 (q.1 0) (λ k b. q.2 k 0 (omega arith) b)

pub returns-in-None : goal.returns-in-None
returns-in-None c =
    let xs = c.args.numbers.now in
    let p = IsFirst-from_position _ _ _ (λ x. 4294967296 ≤ x) (λ x. x < 4294967296) c.position.ensures.ran (YieldsList-from_slice xs cc) (λ x q k. search (rules, tests)) (λ x q k. search (rules, tests)) in
    let q = rw c.in-None.is at p in
    small 1 c.args.number xs c.if-number-ge-LIMIT.false ∙ none_large 2 xs (λ k b. q k 0 (omega arith) b)
