-- A subscriber's number stands at one broker at most, once; and a subscriber stays with its filter until it leaves.
use Rattle.std.proofs.Common.{◌≡◌, ℕ, zero, suc, ◌+◌, ◌<◌, ◌≤◌, Bool, true, false, cond, not, ◌&&◌, ◌||◌, eqb, ◌⊎◌, List, [], ◌∷◌, ◌++◌, length, sym, refl, ap, ◌∙◌, inl, inr, arith}
use Rattle.std.proofs.lemmas.Bool.Decides.{nat_tests}
use Rattle.std.proofs.lemmas.Bool.{eqb-true, eq-eqb, ne_eqb, cases_eq, or_parts, and_parts, not-true}
use Rattle.filter.specs.Filter.{Filter, Notice, matches, same}
use Rattle.filter.proofs.Laws.{same_refl, same_eq}
use Rattle.model.specs.Tree.{Tree}
use Rattle.model.specs.Model.{Subscriber, Network, tell, arrive, known, known_up_to, dropped, Command, step, end, empty}
use Rattle.model.specs.Promise.{subscribed, is_leave, stays, total}
use Rattle.model.specs.Invariant.{one, holders, Owners}
use Rattle.model.proofs.Sums.{total_but, total_zero, total_one, total_two}
use Rattle.model.proofs.Cases.{by_cases, kept_to_end}
use Rattle.model.proofs.Notices.{takers}

pub holders_unknown : (n : ℕ) (rs : List Subscriber) → known n rs ≡ false → holders n rs ≡ 0
unfolding holders known
holders_unknown n [] h = refl
holders_unknown n (r ∷ rs) h =
    let i = holders_unknown n rs in
    grind arith

pub holders_known : (n : ℕ) (rs : List Subscriber) → known n rs ≡ true → 1 ≤ holders n rs
unfolding holders known
holders_known n [] h = grind arith
holders_known n (r ∷ rs) h =
    let i = holders_known n rs in
    grind arith

pub holders_push : (n : ℕ) (rs : List Subscriber) (r : Subscriber) → holders n (rs ++ r ∷ []) ≡ holders n rs + one (eqb r.number n)
unfolding holders
holders_push n [] r = omega arith
holders_push n (q ∷ rs) r =
    let i = holders_push n rs r in
    omega arith

pub holders_dropped : (n m : ℕ) (rs : List Subscriber) → holders n (dropped m rs) ≤ holders n rs
unfolding holders dropped
holders_dropped n m [] = omega arith
holders_dropped n m (r ∷ rs) =
    let i = holders_dropped n m rs in
    grind arith

pub known_up_to_not : (n : ℕ) (subs : ℕ → List Subscriber) (k : ℕ) → known_up_to n subs k ≡ false → (b : ℕ) → b < suc k → known n (subs b) ≡ false
unfolding known_up_to
known_up_to_not n subs zero h b l = rw (zero_is b l) h
  where
    zero_is : (b : ℕ) → b < 1 → b ≡ 0
    zero_is b l = omega arith
known_up_to_not n subs (suc k) h b l = go (cases_eq b (suc k)) (known_up_to_not n subs k)
  where
    p : (known n (subs (suc k)) ≡ false) × (known_up_to n subs k ≡ false)
    p = or_parts (known n (subs (suc k))) (known_up_to n subs k) h

    go : (b ≡ suc k) ⊎ (b ≡ suc k → ⊥) → (known_up_to n subs k ≡ false → (c : ℕ) → c < suc k → known n (subs c) ≡ false) → known n (subs b) ≡ false
    go (inl i) r = rw i p.0
    go (inr ne) r = r p.1 b (omega arith)

-- the list of broker b alone is changed
at_one : (t : Tree) (n b : ℕ) (subs : ℕ → List Subscriber) (rs : List Subscriber) → b ≤ length t →
    total (λ x. holders n (cond (eqb x b) rs (subs x))) (suc (length t)) + holders n (subs b)
    ≡ total (λ x. holders n (subs x)) (suc (length t)) + holders n rs
at_one t n b subs rs hb =
    total_but
    (λ x. holders n (cond (eqb x b) rs (subs x)))
    (λ x. holders n (subs x))
    (suc (length t))
    b
    (omega arith)
    (λ i l ne. ap (λ v. holders n (cond v rs (subs i))) (ne_eqb i b ne))
    ∙ ap (λ v. total (λ x. holders n (subs x)) (suc (length t)) + holders n (cond v rs (subs b))) (eq-eqb b b refl)

joined_owners :
    (t : Tree) (s : Network) (b m : ℕ) (f : Filter) → b ≤ length t → known_up_to m s.subscribers (length t) ≡ false → Owners t s.subscribers → (n : ℕ) →
    total (λ x. holders n (cond (eqb x b) (s.subscribers b ++ record { number = m; filter = f } ∷ []) (s.subscribers x))) (suc (length t)) ≤ 1
unfolding Owners
joined_owners t s b m f hb new h n =
    let a = at_one t n b s.subscribers (s.subscribers b ++ record { number = m; filter = f } ∷ []) hb in
    let p = holders_push n (s.subscribers b) (record { number = m; filter = f }) in
    let i = h n in
    go (eqb m n) refl a p i
  where
    T : ℕ
    T = total (λ x. holders n (cond (eqb x b) (s.subscribers b ++ record { number = m; filter = f } ∷ []) (s.subscribers x))) (suc (length t))

    go :
        (v : Bool) → eqb m n ≡ v →
        T + holders n (s.subscribers b)
        ≡ total (λ x. holders n (s.subscribers x)) (suc (length t)) + holders n (s.subscribers b ++ record { number = m; filter = f } ∷ []) →
        holders n (s.subscribers b ++ record { number = m; filter = f } ∷ []) ≡ holders n (s.subscribers b) + one v →
        total (λ x. holders n (s.subscribers x)) (suc (length t)) ≤ 1 → T ≤ 1
    go true q a p i =
        let z =
        total_zero
        (λ x. holders n (s.subscribers x))
        (suc (length t))
        (λ x l. holders_unknown n (s.subscribers x) (rw (eqb-true m n q) at (known_up_to_not m s.subscribers (length t) new x l))) in
        omega arith
    go false q a p i = omega arith

left_owners :
    (t : Tree) (s : Network) (b m : ℕ) → b ≤ length t → Owners t s.subscribers → (n : ℕ) →
    total (λ x. holders n (cond (eqb x b) (dropped m (s.subscribers b)) (s.subscribers x))) (suc (length t)) ≤ 1
unfolding Owners
left_owners t s b m hb h n =
    let a = at_one t n b s.subscribers (dropped m (s.subscribers b)) hb in
    let p = holders_dropped n m (s.subscribers b) in
    let i = h n in
    omega arith

pub step_owners : (t : Tree) (s : Network) (d : Command) → Owners t s.subscribers → Owners t (step t s d).subscribers
unfolding Owners tell arrive
step_owners t s d h =
    by_cases
    t
    s
    (λ c u. Owners t u.subscribers)
    (record {
      refused = λ d r. h;
      idle = λ x y q. h;
      joined = λ b m f hb new. joined_owners t s b m f hb new h;
      left = λ b m hb there. left_owners t s b m hb h;
      posted = λ b k e hb new. h;
      told = λ a b m ms ha e q tid. h;
      noticed = λ a b k n ms ha e q. h;
    })
    d

pub owners : (t : Tree) (ds : List Command) → Owners t (end t empty ds).subscribers
unfolding Owners holders
owners t ds =
    kept_to_end t (λ s. Owners t s.subscribers) (step_owners t) ds empty (λ n. let z = total_zero (λ b. 0) (suc (length t)) (λ i l. refl) in omega arith)

-- what stands at one broker stands at no other
pub no_other : (t : Tree) (s : Network) → Owners t s.subscribers → (n b c : ℕ) → b ≤ length t → c ≤ length t → (b ≡ c → ⊥) → known n (s.subscribers c) ≡ true → holders n (s.subscribers b) ≡ 0
unfolding Owners
no_other t s h n b c hb hc ne k =
    let i = h n in
    let j = total_two (λ x. holders n (s.subscribers x)) (suc (length t)) b c (omega arith) (omega arith) ne in
    let l = holders_known n (s.subscribers c) k in
    omega arith

pub at_most_one : (t : Tree) (s : Network) → Owners t s.subscribers → (n c : ℕ) → c ≤ length t → holders n (s.subscribers c) ≤ 1
unfolding Owners
at_most_one t s h n c hc =
    let i = h n in
    let j = total_one (λ x. holders n (s.subscribers x)) (suc (length t)) c (omega arith) in
    omega arith

pub takers_holders : (n : ℕ) (e : Notice) (rs : List Subscriber) → takers n e rs ≤ holders n rs
unfolding takers holders
takers_holders n e [] = omega arith
takers_holders n e (r ∷ rs) =
    let i = takers_holders n e rs in
    grind arith

pub subscribed_known : (n : ℕ) (w : Filter) (rs : List Subscriber) → subscribed n w rs ≡ true → known n rs ≡ true
unfolding subscribed known
subscribed_known n w [] h = h
subscribed_known n w (r ∷ rs) h =
    let i = subscribed_known n w rs in
    grind arith

pub known_subscribed : (n : ℕ) (rs : List Subscriber) → known n rs ≡ true → (w : Filter) × (subscribed n w rs ≡ true)
unfolding subscribed known
known_subscribed n [] h = let z : ◌≡◌ {A = ℕ} 0 1 = grind arith in absurd (omega arith)
known_subscribed n (r ∷ rs) h = go (eqb r.number n) refl h (known_subscribed n rs)
  where
    go :
        (v : Bool) → eqb r.number n ≡ v → (v || known n rs) ≡ true → (known n rs ≡ true → (w : Filter) × (subscribed n w rs ≡ true)) →
        (w : Filter) × (((eqb r.number n && same r.filter w) || subscribed n w rs) ≡ true)
    go true q k i = (
      r.filter,
      (let z = same_refl r.filter in
          grind arith),
    )
    go false q k i =
        let (w, p) = i k in
        (w, (grind arith))

-- the one with this number and filter takes what the filter matches
pub takers_subscribed :
    (n : ℕ) (w : Filter) (e : Notice) (rs : List Subscriber) → subscribed n w rs ≡ true → holders n rs ≤ 1 → takers n e rs ≡ one (matches w e)
unfolding subscribed takers holders
takers_subscribed n w e [] h l = grind arith
takers_subscribed n w e (r ∷ rs) h l =
    let i = takers_subscribed n w e rs in
    let j = takers_holders n e rs in
    let k = subscribed_known n w rs in
    let m = holders_known n rs in
    let o = same_eq r.filter w in
    go (eqb r.number n) (same r.filter w) refl refl h l i j k m o
  where
    go :
        (v u : Bool) → eqb r.number n ≡ v → same r.filter w ≡ u → ((v && u) || subscribed n w rs) ≡ true → one v + holders n rs ≤ 1 →
        (subscribed n w rs ≡ true → holders n rs ≤ 1 → takers n e rs ≡ one (matches w e)) → takers n e rs ≤ holders n rs →
        (subscribed n w rs ≡ true → known n rs ≡ true) → (known n rs ≡ true → 1 ≤ holders n rs) → (u ≡ true → r.filter ≡ w) →
        one (v && matches r.filter e) + takers n e rs ≡ one (matches w e)
    go true true p q h l i j k m o =
        let x : matches r.filter e ≡ matches w e = ap (λ y. matches y e) (o refl) in
        grind arith
    go true false p q h l i j k m o = grind arith
    go false u p q h l i j k m o = grind arith

pub subscribed_push : (n : ℕ) (w : Filter) (rs : List Subscriber) (r : Subscriber) → subscribed n w rs ≡ true → subscribed n w (rs ++ r ∷ []) ≡ true
unfolding subscribed
subscribed_push n w [] r h = grind arith
subscribed_push n w (q ∷ rs) r h =
    let i = subscribed_push n w rs r in
    grind arith

pub subscribed_dropped :
    (n m : ℕ) (w : Filter) (rs : List Subscriber) → (m ≡ n → ⊥) → subscribed n w rs ≡ true → subscribed n w (dropped m rs) ≡ true
unfolding subscribed dropped
subscribed_dropped n m w [] ne h = h
subscribed_dropped n m w (q ∷ rs) ne h =
    let i = subscribed_dropped n m w rs ne in
    grind (arith, nat_tests)

pub step_subscribed :
    (t : Tree) (s : Network) (c n : ℕ) (w : Filter) (d : Command) → is_leave c n d ≡ false → subscribed n w (s.subscribers c) ≡ true →
    subscribed n w ((step t s d).subscribers c) ≡ true
unfolding tell arrive is_leave
step_subscribed t s c n w d st h =
    by_cases
    t
    s
    (λ e u. is_leave c n e ≡ false → subscribed n w (u.subscribers c) ≡ true)
    (record {
      refused = λ d r st. h;
      idle = λ x y q st. h;
      joined = λ b m f hb new st. at b (s.subscribers b ++ record { number = m; filter = f } ∷ []) (λ i. rw i (subscribed_push n w (s.subscribers c) (record { number = m; filter = f }) h));
      left = λ b m hb there st.
          at b (dropped m (s.subscribers b)) (λ i. rw i (subscribed_dropped n m w (s.subscribers c) (other b m st i) h));
      posted = λ b k e hb new st. h;
      told = λ a b m ms ha e q tid st. h;
      noticed = λ a b k e ms ha f q st. h;
    })
    d
    st
  where
    other : (b m : ℕ) → (eqb b c && eqb m n) ≡ false → b ≡ c → m ≡ n → ⊥
    other b m st i j = grind (arith, nat_tests)

    at : (b : ℕ) (rs : List Subscriber) → (b ≡ c → subscribed n w rs ≡ true) → subscribed n w (cond (eqb c b) rs (s.subscribers c)) ≡ true
    at b rs k = go (eqb c b) refl
      where
        go : (v : Bool) → eqb c b ≡ v → subscribed n w (cond v rs (s.subscribers c)) ≡ true
        go true q = k (sym (eqb-true c b q))
        go false q = h

pub end_subscribed :
    (t : Tree) (c n : ℕ) (w : Filter) (ds : List Command) (s : Network) → stays c n ds ≡ true → subscribed n w (s.subscribers c) ≡ true →
    subscribed n w ((end t s ds).subscribers c) ≡ true
unfolding end stays
end_subscribed t c n w [] s st h = h
end_subscribed t c n w (d ∷ ds) s st h =
    let (p, q) = and_parts (not (is_leave c n d)) (stays c n ds) st in
    end_subscribed t c n w ds (step t s d) q (step_subscribed t s c n w d (not-true (is_leave c n d) p) h)
