-- What holds of every filter and notice: covering is an order that keeps its word on notices, `before` is a strict and total order that decides
-- equality, and the zeros that fill a filter up change no test.
use Rattle.std.specs.Prelude.{◌≡◌, ℕ, ◌*◌, ◌≤◌, true, false, not, ◌&&◌, ◌⊎◌, length}
use Rattle.filter.specs.Filter.{Filter, Notice, matches, covers, same, before, padded}

abbrev pub CoversTransitive : Type 0
CoversTransitive = (f g h : Filter) → covers f g ≡ true → covers g h ≡ true → covers f h ≡ true

abbrev pub CoversAntisymmetric : Type 0
CoversAntisymmetric = (f g : Filter) → covers f g ≡ true → covers g f ≡ true → f ≡ g

-- a row that is no list of ranges, one of an odd length, covers nothing, not even itself
abbrev pub CoversReflexive : Type 0
CoversReflexive = (m : ℕ) (f : Filter) → length f ≡ 2 * m → covers f f ≡ true

-- a filter that covers another matches all that the other does
abbrev pub CoversSound : Type 0
CoversSound = (f g : Filter) (e : Notice) → covers f g ≡ true → matches g e ≡ true → matches f e ≡ true

abbrev pub SameDecides : Type 0
SameDecides = (f g : Filter) → (same f g ≡ true → f ≡ g) × (f ≡ g → same f g ≡ true)

pub record OrderStrictTotal : Type 0 where
  pub irreflexive : (f : Filter) → before f f ≡ false
  pub transitive : (f g h : Filter) → before f g ≡ true → before g h ≡ true → before f h ≡ true
  pub total : (f g : Filter) → (before f g ≡ true) ⊎ ((f ≡ g) ⊎ (before g f ≡ true))
  pub decides : (f g : Filter) → same f g ≡ (not (before f g) && not (before g f))

-- two filters of m ranges and a notice of m numbers, filled up with zeros as they are kept by value
pub record PaddingKeeps (m : ℕ) (f g : Filter) (e : Notice) : Type 0 where
  pub covering : covers (padded 16 f) (padded 16 g) ≡ covers f g
  pub matching : matches (padded 16 f) (padded 8 e) ≡ matches f e
  pub equality : same (padded 16 f) (padded 16 g) ≡ same f g
  pub order : before (padded 16 f) (padded 16 g) ≡ before f g

abbrev pub PaddingChangesNothing : Type 0
PaddingChangesNothing =
    (m : ℕ) (f g : Filter) (e : Notice) → m ≤ 8 → length f ≡ 2 * m → length g ≡ 2 * m → length e ≡ m → PaddingKeeps m f g e
