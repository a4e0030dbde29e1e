-- The bytes of a command, and that reading and writing undo each other.
use Rattle.std.specs.Prelude.{◌≡◌, ℕ, ◌+◌, ◌*◌, ◌/◌, ◌%◌, ◌^◌, ◌<◌, ◌≤◌, Bool, true, ◌&&◌, List, [], ◌∷◌, ◌++◌, length, take, nat_lt, slice_index}
use Rattle.std.specs.List.{flat_map, list_all, between}
use Rattle.filter.specs.Filter.{padded}
use Rattle.layout.specs.declared.command.Command.{Command}
use Rattle.layout.specs.declared.command.Command.TheVariants.{Join, Leave, Post, Carry}
use Rattle.script.specs.Script.{reading, found}

-- the four bytes of a number, low byte first
abbrev pub four_bytes : ℕ → List ℕ
four_bytes n = n % 256 ∷ n / 256 % 256 ∷ n / 256 / 256 % 256 ∷ n / 256 / 256 / 256 % 256 ∷ []

abbrev pub written : ℕ → Command → List ℕ
written ranges (Join broker number filter) = 0 ∷ broker ∷ (four_bytes number ++ flat_map four_bytes (take (2 * ranges) filter.bounds))
written ranges (Leave broker number) = 1 ∷ broker ∷ four_bytes number
written ranges (Post broker number notice) = 2 ∷ broker ∷ (four_bytes number ++ flat_map four_bytes (take ranges notice.numbers))
written ranges (Carry from to) = 3 ∷ from ∷ to ∷ []

-- the numbers fit four bytes
abbrev pub small : ℕ → Bool
small n = nat_lt n (2 ^ 32)

abbrev pub all_small : List ℕ → Bool
all_small ns = list_all small ns

-- the command's brokers fit a byte, and its other numbers four
abbrev pub fits : ℕ → Command → Bool
fits ranges (Join broker number filter) = nat_lt broker 256 && (small number && all_small (take (2 * ranges) filter.bounds))
fits ranges (Leave broker number) = nat_lt broker 256 && small number
fits ranges (Post broker number notice) = nat_lt broker 256 && (small number && all_small (take ranges notice.numbers))
fits ranges (Carry from to) = nat_lt from 256 && nat_lt to 256

-- nothing but zeros stands past the command's ranges
abbrev pub Clean : ℕ → Command → Type 0
Clean ranges (Join broker number filter) = filter.bounds ≡ padded 16 (take (2 * ranges) filter.bounds)
Clean ranges (Leave broker number) = Unit {0}
Clean ranges (Post broker number notice) = notice.numbers ≡ padded 8 (take ranges notice.numbers)
Clean ranges (Carry from to) = Unit {0}

-- what was written is read, wherever in a script it stands
abbrev pub ReadsWhatWasWritten : Type 0
ReadsWhatWasWritten =
    (ranges : ℕ) (c : Command) (front rest : List ℕ) → ranges ≤ 8 → fits ranges c ≡ true → Clean ranges c →
    reading ranges (front ++ (written ranges c ++ rest)) (length front) ≡ found c (length front + length (written ranges c))

abbrev pub Bytes : List ℕ → Type 0
Bytes xs = (i : ℕ) → slice_index xs i < 256

-- what was read, written again, is the bytes that were read
abbrev pub WritesWhatWasRead : Type 0
WritesWhatWasRead =
    (ranges : ℕ) (xs : List ℕ) (at : ℕ) (c : Command) (rest : ℕ) → ranges ≤ 8 → Bytes xs → reading ranges xs at ≡ found c rest →
    (fits ranges c ≡ true) × Clean ranges c × (written ranges c ≡ between at rest xs)
