-- A pass over the brokers for those beside one, in the order of telling.
use Rattle.std.proofs.Common.{◌≡◌, ℕ, zero, suc, ◌+◌, ◌-◌, ◌<◌, ◌≤◌, Bool, true, false, cond, eqb, List, [], ◌∷◌, ◌++◌, length, refl, arith}
use Rattle.std.proofs.lemmas.List.{length_push}
use Rattle.std.proofs.lemmas.Bool.Decides.{nat_tests}
use Rattle.model.specs.Tree.{Tree, up, under, neighbours}

-- the one that b hangs on, and those of the brokers up to k that hang on it
unfoldable pub told : Tree → ℕ → ℕ → List ℕ
told t zero k = under t zero k
told t (suc b) k = up t (suc b) ∷ under t (suc b) k

pub told_all : (t : Tree) (b : ℕ) → told t b (length t) ≡ neighbours t b
unfolding told neighbours
told_all t zero = refl
told_all t (suc b) = refl

-- one broker more
pub told_more : (t : Tree) (b k : ℕ) → told t b (suc k) ≡ cond (eqb (up t (suc k)) b) (told t b k ++ suc k ∷ []) (told t b k)
unfolding told under
told_more t zero k = refl
told_more t (suc b) k = go (eqb (up t (suc k)) (suc b))
  where
    go : (v : Bool) →
        up t (suc b) ∷ cond v (under t (suc b) k ++ suc k ∷ []) (under t (suc b) k) ≡ cond v ((up t (suc b) ∷ under t (suc b) k) ++ suc k ∷ []) (up t (suc b) ∷ under t (suc b) k)
    go true = refl
    go false = refl

-- at most one for each broker gone through, and one
under_few : (t : Tree) (b k : ℕ) → length (under t b k) ≤ k
unfolding under
under_few t b zero = omega arith
under_few t b (suc k) = go (eqb (up t (suc k)) b) (under_few t b k)
  where
    go : (v : Bool) → length (under t b k) ≤ k → length (cond v (under t b k ++ suc k ∷ []) (under t b k)) ≤ suc k
    go true r =
        let l = length_push (under t b k) (suc k) in
        omega arith
    go false r = omega arith

pub told_few : (t : Tree) (b k : ℕ) → length (told t b k) ≤ suc k
unfolding told
told_few t zero k =
    let r = under_few t zero k in
    omega arith
told_few t (suc b) k =
    let r = under_few t (suc b) k in
    omega arith

-- before the first turn there is the broker that b hangs on, if it hangs on one
pub told_none : (t : Tree) → told t 0 0 ≡ []
unfolding told under
told_none t = refl

pub told_first : (t : Tree) (b up_one : ℕ) (none one : List ℕ) → 0 < b → up_one ≡ up t b → none ≡ [] → one ≡ none ++ up_one ∷ [] → one ≡ told t b 0
unfolding told under
told_first t zero u none one p e f g = absurd (omega arith)
told_first t (suc b) u none one p e f g = cc

-- a turn: broker k hangs on b, or it does not
pub told_push : (t : Tree) (b k : ℕ) (was new : List ℕ) → 0 < k → up t k ≡ b → was ≡ told t b (k - 1) → new ≡ was ++ k ∷ [] → new ≡ told t b (k + 1 - 1)
told_push t b zero was new p e f g = absurd (omega arith)
told_push t b (suc k) was new p e f g =
    let m = told_more t b k in
    let x : suc k - 1 ≡ k = omega arith in
    let y : suc k + 1 - 1 ≡ suc k = omega arith in
    let h = rw x at f in
    rw y (grind (arith, nat_tests))

pub told_skip : (t : Tree) (b k : ℕ) → 0 < k → (up t k ≡ b → ⊥) → told t b (k + 1 - 1) ≡ told t b (k - 1)
told_skip t b zero p e = absurd (omega arith)
told_skip t b (suc k) p e =
    let m = told_more t b k in
    let x : suc k - 1 ≡ k = omega arith in
    let y : suc k + 1 - 1 ≡ suc k = omega arith in
    rw (y, x) (grind (arith, nat_tests))
