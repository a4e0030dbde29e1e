-- How a row of words is divided into parts: one kind of parts after the other, of each kind so many parts of so many words.
use Rattle.std.specs.Prelude.{◌≡◌, ℕ, zero, suc, ◌+◌, ◌*◌, ◌<◌, ◌≤◌, Bool, false, ◌&&◌, List, [], ◌∷◌, length, ◌==◌}
use borrow.Rule.Slice.PartMut.{put_mid}
use Rattle.std.specs.List.{between}

pub record Kind : Type 0 where
  pub many : ℕ
  pub size : ℕ

-- the kinds, in the order in which their parts lie
abbrev pub Plan : Type 0
Plan = List Kind

-- how many words all parts take
unfoldable pub words_of : Plan → ℕ
words_of [] = 0
words_of (k ∷ ks) = k.many * k.size + words_of ks

-- how many parts of a kind there are, and how many words each takes
unfoldable pub many_of : Plan → ℕ → ℕ
many_of [] k = 0
many_of (x ∷ xs) zero = x.many
many_of (x ∷ xs) (suc k) = many_of xs k

unfoldable pub size_of : Plan → ℕ → ℕ
size_of [] k = 0
size_of (x ∷ xs) zero = x.size
size_of (x ∷ xs) (suc k) = size_of xs k

-- the word where the i-th part of a kind begins
unfoldable pub start_of : Plan → (k i : ℕ) → ℕ
start_of [] k i = 0
start_of (x ∷ xs) zero i = i * x.size
start_of (x ∷ xs) (suc k) i = x.many * x.size + start_of xs k i

-- the words of that part
abbrev pub part : Plan → List ℕ → (k i : ℕ) → List ℕ
part p memory k i = between (start_of p k i) (start_of p k i + size_of p k) memory

-- the memory after a part was written
abbrev pub with_part : Plan → List ℕ → (k i : ℕ) → List ℕ → List ℕ
with_part p memory k i ys = put_mid (start_of p k i) (size_of p k) memory ys

-- the same part
abbrev pub same_part : (k i l j : ℕ) → Bool
same_part k i l j = k == l && i == j

-- a part lies within the words; what is written to it is there; and every other part, of any kind, holds what it held
pub record PartApart (p : Plan) (memory ys : List ℕ) (k i : ℕ) : Type 0 where
  pub within : start_of p k i + size_of p k ≤ words_of p
  pub written : part p (with_part p memory k i ys) k i ≡ ys
  pub others : (l j : ℕ) → j < many_of p l → same_part k i l j ≡ false → part p (with_part p memory k i ys) l j ≡ part p memory l j

abbrev pub PartsLieApart : Type 0
PartsLieApart =
    (p : Plan) (memory ys : List ℕ) (k i : ℕ) → length memory ≡ words_of p → i < many_of p k → length ys ≡ size_of p k → PartApart p memory ys k i
