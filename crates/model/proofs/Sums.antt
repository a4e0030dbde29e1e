-- Sums over the brokers.
use Rattle.std.proofs.Common.{◌≡◌, ℕ, zero, suc, ◌+◌, ◌<◌, ◌≤◌, ◌⊎◌, sym, refl, ap, ◌∙◌, inl, inr, arith}
use Rattle.std.proofs.lemmas.Bool.{cases_eq}
use Rattle.model.specs.Promise.{total}

pub total_same : (f g : ℕ → ℕ) (n : ℕ) → ((i : ℕ) → i < n → f i ≡ g i) → total f n ≡ total g n
unfolding total
total_same f g zero h = refl
total_same f g (suc n) h =
    let r = total_same f g n (λ i l. h i (omega arith)) in
    let k = h n (omega arith) in
    omega arith

-- f and g differ at a alone
pub total_but : (f g : ℕ → ℕ) (n a : ℕ) → a < n → ((i : ℕ) → i < n → (i ≡ a → ⊥) → f i ≡ g i) → total f n + g a ≡ total g n + f a
unfolding total
total_but f g zero a l h = absurd (omega arith)
total_but f g (suc n) a l h = go (cases_eq a n) (λ k. total_but f g n a k (λ i j ne. h i (omega arith) ne))
  where
    go : (a ≡ n) ⊎ (a ≡ n → ⊥) → (a < n → total f n + g a ≡ total g n + f a) → (total f n + f n) + g a ≡ (total g n + g n) + f a
    go (inl i) r =
        let s = total_same f g n (λ j k. h j (omega arith) (λ q. let z : ⊥ = omega arith in absurd z)) in
        rw i (omega arith)
    go (inr ne) r =
        let s = r (omega arith) in
        let k = h n (omega arith) (λ q. ne (sym q)) in
        omega arith

pub total_zero : (f : ℕ → ℕ) (n : ℕ) → ((i : ℕ) → i < n → f i ≡ 0) → total f n ≡ 0
unfolding total
total_zero f zero h = refl
total_zero f (suc n) h =
    let r = total_zero f n (λ i l. h i (omega arith)) in
    let k = h n (omega arith) in
    omega arith

pub total_le : (f g : ℕ → ℕ) (n : ℕ) → ((i : ℕ) → i < n → f i ≤ g i) → total f n ≤ total g n
unfolding total
total_le f g zero h = omega arith
total_le f g (suc n) h =
    let r = total_le f g n (λ i l. h i (omega arith)) in
    let k = h n (omega arith) in
    omega arith

pub total_one : (f : ℕ → ℕ) (n a : ℕ) → a < n → f a ≤ total f n
unfolding total
total_one f zero a l = absurd (omega arith)
total_one f (suc n) a l = go (cases_eq a n) (λ k. total_one f n a k)
  where
    go : (a ≡ n) ⊎ (a ≡ n → ⊥) → (a < n → f a ≤ total f n) → f a ≤ total f n + f n
    go (inl i) r = rw i (omega arith)
    go (inr ne) r =
        let s = r (omega arith) in
        omega arith

pub total_most : (f : ℕ → ℕ) (n : ℕ) → ((i : ℕ) → i < n → f i ≤ 1) → total f n ≤ n
unfolding total
total_most f zero h = omega arith
total_most f (suc n) h =
    let r = total_most f n (λ i l. h i (omega arith)) in
    let k = h n (omega arith) in
    omega arith

pub total_two : (f : ℕ → ℕ) (n a b : ℕ) → a < n → b < n → (a ≡ b → ⊥) → f a + f b ≤ total f n
unfolding total
total_two f zero a b l k ne = absurd (omega arith)
total_two f (suc n) a b l k ne = go (cases_eq a n) (cases_eq b n) (total_two f n a b) (total_one f n)
  where
    go :
        (a ≡ n) ⊎ (a ≡ n → ⊥) → (b ≡ n) ⊎ (b ≡ n → ⊥) → (a < n → b < n → (a ≡ b → ⊥) → f a + f b ≤ total f n) → ((c : ℕ) → c < n → f c ≤ total f n) →
        f a + f b ≤ total f n + f n
    go (inl i) (inl j) r o = absurd (ne (i ∙ sym j))
    go (inl i) (inr j) r o =
        let p = o b (omega arith) in
        rw i (omega arith)
    go (inr i) (inl j) r o =
        let p = o a (omega arith) in
        rw j (omega arith)
    go (inr i) (inr j) r o =
        let p = r (omega arith) (omega arith) ne in
        omega arith

pub total_plus : (f g : ℕ → ℕ) (n : ℕ) → total (λ i. f i + g i) n ≡ total f n + total g n
unfolding total
total_plus f g zero = refl
total_plus f g (suc n) =
    let r = total_plus f g n in
    omega arith

-- each at most 1, and one of them 0
pub total_less : (f : ℕ → ℕ) (n a : ℕ) → a < n → ((i : ℕ) → i < n → f i ≤ 1) → f a ≡ 0 → suc (total f n) ≤ n
unfolding total
total_less f zero a l h z = absurd (omega arith)
total_less f (suc n) a l h z = go (cases_eq a n) (λ k. total_less f n a k (λ i j. h i (omega arith)) z) (total_most f n (λ i j. h i (omega arith)))
  where
    go : (a ≡ n) ⊎ (a ≡ n → ⊥) → (a < n → suc (total f n) ≤ n) → total f n ≤ n → suc (total f n + f n) ≤ suc n
    go (inl i) r m =
        let y : f n ≡ 0 = ap f (sym i) ∙ z in
        omega arith
    go (inr ne) r m =
        let q = r (omega arith) in
        let k = h n (omega arith) in
        omega arith
