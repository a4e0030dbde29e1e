-- What an opening's checks come to: where no broker is found loose, each hangs on one before it.
use Rattle.std.proofs.Common.{◌≡◌, ℕ, zero, suc, ◌+◌, ◌-◌, ◌<◌, ◌≤◌, Bool, true, false, ltb, ◌⊎◌, List, ◌∷◌, ◌++◌, length, get_or, take, drop, replicate, Some, None, Option, MatchOption, sym, refl, ap, inl, inr, arith, rules}
use Rattle.std.proofs.lemmas.List.{places, same_lists, get_or_past, get_or_default}
use Rattle.std.proofs.lemmas.Bool.{cases_order}
use Rattle.std.proofs.lemmas.Bool.Decides.{nat_tests}
use Rattle.layout.specs.Opening.{HangsTogether, hangs, first_loose, hung_of, FindsTheFirstLoose}

-- a broker with none given for it is loose
pub hangs_past : (given : List ℕ) (b : ℕ) → length given < b → hangs given b ≡ false
hangs_past given b h =
    let p = get_or_past given (b - 1) b (omega arith) in
    grind (arith, nat_tests)

pub hangs_within : (given : List ℕ) (b : ℕ) → 0 < b → b ≤ length given → hangs given b ≡ ltb (get_or given (b - 1) 0) b
hangs_within given b p q =
    let e = get_or_default given (b - 1) b 0 (omega arith) in
    cc

-- where none is loose, each broker that was looked at hangs on one before it
none_loose : (given : List ℕ) (b n k : ℕ) → first_loose given b n ≡ None → b ≤ k → k < b + n → hangs given k ≡ true
none_loose given b zero k e p q = grind arith
none_loose given b (suc n) k e p q =
    let r = none_loose given (suc b) n k in
    go (hangs given b) refl (cases_order k b) r
  where
    go : (h : Bool) → hangs given b ≡ h → (k ≡ b) ⊎ ((k < b) ⊎ (b < k)) → (first_loose given (suc b) n ≡ None → suc b ≤ k → k < suc b + n → hangs given k ≡ true) → hangs given k ≡ true
    go true h (inl l) r = cc
    go true h (inr (inl l)) r = absurd (omega arith)
    go true h (inr (inr l)) r =
        let s : first_loose given (suc b) n ≡ None = cc in
        r s (omega arith) (omega arith)
    go false h o r =
        let z : ◌≡◌ {A = ℕ} 0 1 = cc in
        absurd (omega arith)

-- .. and where each hangs on one before it none is loose; the first that does not is the first that is
loose_none : (given : List ℕ) (b n : ℕ) → ((k : ℕ) → b ≤ k → k < b + n → hangs given k ≡ true) → first_loose given b n ≡ None
loose_none given b zero h = refl
loose_none given b (suc n) h =
    let r = loose_none given (suc b) n (λ k p q. h k (omega arith) (omega arith)) in
    let t = h b (omega arith) (omega arith) in
    cc

loose_some : (given : List ℕ) (b n i : ℕ) → b ≤ i → i < b + n → hangs given i ≡ false → ((k : ℕ) → b ≤ k → k < i → hangs given k ≡ true) → first_loose given b n ≡ Some i
loose_some given b zero i p q l h = absurd (omega arith)
loose_some given b (suc n) i p q l h = go (cases_order b i) (λ e. loose_some given (suc b) n i e (omega arith) l (λ k x y. h k (omega arith) y))
  where
    go : (b ≡ i) ⊎ ((b < i) ⊎ (i < b)) → (suc b ≤ i → first_loose given (suc b) n ≡ Some i) → first_loose given b (suc n) ≡ Some i
    go (inl e) r = cc
    go (inr (inl e)) r =
        let u = r (omega arith) in
        let t = h b (omega arith) e in
        cc
    go (inr (inr e)) r = absurd (omega arith)

pub loose_found : (given : List ℕ) (brokers : ℕ) (r : Option ℕ) →
    MatchOption r ((k : ℕ) → 1 ≤ k → k < brokers → hangs given k ≡ true) (λ i. (1 ≤ i) × (i < brokers) × (hangs given i ≡ false) × ((k : ℕ) → 1 ≤ k → k < i → hangs given k ≡ true)) →
    r ≡ first_loose given 1 (brokers - 1)
loose_found given brokers None h = sym (loose_none given 1 (brokers - 1) (λ k p q. h k p (omega arith)))
loose_found given brokers (Some i) h = sym (loose_some given 1 (brokers - 1) i h.0 (omega arith) h.2 h.3)

-- the first n numbers of a row, copied into a cleared one
copied : (k n : ℕ) (xs : List ℕ) → n ≤ length xs → n ≤ k → take n xs ++ drop n (replicate k 0) ≡ take k (take n xs ++ replicate (suc k) 0)
copied k n xs p q = same_lists _ _ (search (rules, places)) (λ i d h. grind (arith, places))

copied_at : (k n i : ℕ) (xs : List ℕ) → n ≤ length xs → n ≤ k → i < n → get_or (take k (take n xs ++ replicate (suc k) 0)) i 0 ≡ get_or xs i 0
copied_at k n i xs p q h = grind (arith, places)

-- the brokers hung on, copied behind the first broker's place
pub hung_row : (brokers : ℕ) (given : List ℕ) → 1 ≤ brokers → brokers ≤ 16 → brokers - 1 ≤ length given →
    0 ∷ (take (brokers - 1) given ++ drop (brokers - 1) (replicate 15 0)) ≡ hung_of brokers given
hung_row brokers given p q h = ap (λ xs. 0 ∷ xs) (copied 15 (brokers - 1) given h (omega arith))

hung_at : (brokers b : ℕ) (given : List ℕ) → brokers ≤ 16 → brokers - 1 ≤ length given → 0 < b → b < brokers → get_or (hung_of brokers given) b 0 ≡ get_or given (b - 1) 0
hung_at brokers zero given p q h l = grind arith
hung_at brokers (suc b) given p q h l =
    let e : suc b - 1 ≡ b = omega arith in
    rw (e) (copied_at 15 (brokers - 1) b given q (omega arith) (omega arith))

-- where none is loose, all are given and hang together
pub all_given : (brokers : ℕ) (given : List ℕ) → first_loose given 1 (brokers - 1) ≡ None → brokers - 1 ≤ length given
all_given brokers given e = go (cases_order (brokers - 1) (length given))
  where
    go : (brokers - 1 ≡ length given) ⊎ ((brokers - 1 < length given) ⊎ (length given < brokers - 1)) → brokers - 1 ≤ length given
    go (inl l) = omega arith
    go (inr (inl l)) = omega arith
    go (inr (inr l)) =
        let p = none_loose given 1 (brokers - 1) (brokers - 1) e (omega arith) (omega arith) in
        let q = hangs_past given (brokers - 1) (omega arith) in
        grind arith

pub all_hung : (brokers : ℕ) (given : List ℕ) → brokers ≤ 16 → first_loose given 1 (brokers - 1) ≡ None → HangsTogether brokers (hung_of brokers given)
all_hung brokers given h e b p q =
    let g = all_given brokers given e in
    let l = none_loose given 1 (brokers - 1) b e (omega arith) (omega arith) in
    let w = hangs_within given b (omega arith) (omega arith) in
    let r = hung_at brokers b given h g p q in
    grind (arith, nat_tests)

some_loose : (given : List ℕ) (b n k : ℕ) → first_loose given b n ≡ Some k →
    (b ≤ k) × (k < b + n) × (hangs given k ≡ false) × ((j : ℕ) → b ≤ j → j < k → hangs given j ≡ true)
some_loose given b zero k e =
    let z : ◌≡◌ {A = ℕ} 0 1 = cc in
    absurd (omega arith)
some_loose given b (suc n) k e =
    let r = some_loose given (suc b) n k in
    go (hangs given b) refl r
  where
    go : (h : Bool) → hangs given b ≡ h → (first_loose given (suc b) n ≡ Some k → (suc b ≤ k) × (k < suc b + n) × (hangs given k ≡ false) × ((j : ℕ) → suc b ≤ j → j < k → hangs given j ≡ true)) →
        (b ≤ k) × (k < b + suc n) × (hangs given k ≡ false) × ((j : ℕ) → b ≤ j → j < k → hangs given j ≡ true)
    go true h r =
        let s : first_loose given (suc b) n ≡ Some k = cc in
        let (low, high, loose, before) = r s in
        (omega arith, omega arith, loose, λ j p q. first j p q (cases_order j b) before)
      where
        first : (j : ℕ) → b ≤ j → j < k → (j ≡ b) ⊎ ((j < b) ⊎ (b < j)) → ((j : ℕ) → suc b ≤ j → j < k → hangs given j ≡ true) → hangs given j ≡ true
        first j p q (inl l) before = cc
        first j p q (inr (inl l)) before = absurd (omega arith)
        first j p q (inr (inr l)) before = before j (omega arith) q
    go false h r =
        let s : k ≡ b = cc in
        (omega arith, omega arith, cc, λ j p q. absurd (omega arith))

pub finds_the_first_loose : FindsTheFirstLoose
finds_the_first_loose given brokers = (some, λ e k p q. none_loose given 1 (brokers - 1) k e (omega arith) (omega arith))
  where
    some : (b : ℕ) → first_loose given 1 (brokers - 1) ≡ Some b → (0 < b) × (b < brokers) × (hangs given b ≡ false) × ((k : ℕ) → 0 < k → k < b → hangs given k ≡ true)
    some b e =
        let (low, high, loose, before) = some_loose given 1 (brokers - 1) b e in
        (omega arith, omega arith, loose, before)
