-- Filters and notices as rows of numbers: when a filter matches a notice, when it covers another filter, and the order of filters.
use Rattle.std.specs.Prelude.{ℕ, Bool, true, false, cond, ◌&&◌, List, [], ◌∷◌, ◌++◌, take, replicate, ◌==◌, nat_le, nat_lt}

-- a notice is a row of numbers
abbrev pub Notice : Type 0
Notice = List ℕ

-- a filter is a range for each number of a notice: the least and the greatest that it wants, one after the other. A range that ends before it
-- begins is allowed, and then the filter matches nothing
abbrev pub Filter : Type 0
Filter = List ℕ

-- each number of the notice lies in the range at its place
unfoldable pub matches : Filter → Notice → Bool
matches [] xs = true
matches (a ∷ []) xs = false
matches (a ∷ b ∷ f) [] = false
matches (a ∷ b ∷ f) (x ∷ xs) = (nat_le a x && nat_le x b) && matches f xs

-- each range of the first filter begins no later and ends no earlier than the one of the second at its place. It is by the numbers alone: a range
-- that matches nothing covers, and is covered, by its numbers too
unfoldable pub covers : Filter → Filter → Bool
covers [] [] = true
covers [] (c ∷ g) = false
covers (a ∷ []) g = false
covers (a ∷ b ∷ f) [] = false
covers (a ∷ b ∷ f) (c ∷ []) = false
covers (a ∷ b ∷ f) (c ∷ d ∷ g) = (nat_le a c && nat_le d b) && covers f g

-- the same numbers
unfoldable pub same : Filter → Filter → Bool
same [] [] = true
same [] (y ∷ ys) = false
same (x ∷ xs) [] = false
same (x ∷ xs) (y ∷ ys) = x == y && same xs ys

-- the order of filters, number by number: the first number in which they differ decides
unfoldable pub before : Filter → Filter → Bool
before [] [] = false
before [] (y ∷ ys) = true
before (x ∷ xs) [] = false
before (x ∷ xs) (y ∷ ys) = cond (nat_lt x y) true (x == y && before xs ys)

-- the first n numbers of a row, with zeros for those that it lacks
abbrev pub padded : ℕ → List ℕ → List ℕ
padded n xs = take n (xs ++ replicate n 0)
