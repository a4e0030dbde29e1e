-- Words that a pass writes one behind the other over the front of others.
use Rattle.std.proofs.Common.{◌≡◌, ℕ, ◌+◌, ◌<◌, List, [], ◌∷◌, ◌++◌, length, drop, set, refl, arith}
use Rattle.std.proofs.lemmas.List.{length_push}
use Rattle.filter.proofs.Passes.{push_over}

-- `to` words were written, these, and past them all is as it was
pub record Front (xs was out : List ℕ) (to : ℕ) : Type 0 where
  pub counted : to ≡ length xs
  pub words : out ≡ xs ++ drop to was

pub front_none : (was : List ℕ) → Front [] was was 0
front_none was = record { counted = refl; words = refl }

pub front_push : (xs was out : List ℕ) (to x : ℕ) → Front xs was out to → to < length was → Front (xs ++ x ∷ []) was (set out to x) (to + 1)
front_push xs was out to x h l =
    let c = h.counted in
    let w = h.words in
    let n = length_push xs x in
    let p = push_over xs was to x c l in
    record { counted = omega arith; words = cc }
