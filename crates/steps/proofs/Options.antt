-- What is known of a test where its answer is something or nothing.
use Rattle.std.proofs.Common.{◌≡◌, ℕ, Bool, true, false, cond, Some, None, refl, arith}

pub found : {A : Type 0} (t : Bool) (x y : A) → Some y ≡ cond t (Some x) None → t ≡ true
found true x y e = refl
found false x y e = let z : ◌≡◌ {A = ℕ} 0 1 = cc in absurd (omega arith)

pub found_is : {A : Type 0} (t : Bool) (x y : A) → Some y ≡ cond t (Some x) None → y ≡ x
found_is true x y e = cc
found_is false x y e = let z : ◌≡◌ {A = ℕ} 0 1 = cc in absurd (omega arith)

pub missed : {A : Type 0} (t : Bool) (x : A) → None ≡ cond t (Some x) None → t ≡ false
missed true x e = let z : ◌≡◌ {A = ℕ} 0 1 = cc in absurd (omega arith)
missed false x e = refl
