-- The words that stand for a message, and the message that words stand for.
use Rattle.std.specs.Prelude.{◌≡◌, ℕ, ◌+◌, ◌*◌, cond, List, ◌∷◌, ◌++◌, take, replicate, ◌==◌, slice_index}
use Rattle.std.specs.List.{between}
use Rattle.filter.specs.Filter.{padded}
use Rattle.channel.specs.declared.message.Message.{Message}
use Rattle.channel.specs.declared.message.Message.TheVariants.{Add, Cut, Notice as Post}

-- a kind, the notice's number or 0, then the 2m numbers of the filter, or the m numbers of the notice and m zeros
abbrev pub words : ℕ → Message → List ℕ
words m (Add f) = 1 ∷ 0 ∷ take (2 * m) f.bounds
words m (Cut f) = 2 ∷ 0 ∷ take (2 * m) f.bounds
words m (Post number notice) = 3 ∷ number ∷ (take m notice.numbers ++ replicate m 0)

-- what words stand for; every row that is neither an add nor a cut is read as a notice
abbrev pub message : ℕ → List ℕ → Message
message m ws =
    cond (slice_index ws 0 == 1) (Add (record { bounds = padded 16 (between 2 (2 + 2 * m) ws) }))
    (cond (slice_index ws 0 == 2) (Cut (record { bounds = padded 16 (between 2 (2 + 2 * m) ws) }))
    (Post (slice_index ws 1) (record { numbers = padded 8 (between 2 (2 + m) ws) })))

-- a message of a network with m numbers to a notice: what lies past them in its arrays is zero
abbrev pub Fitting : ℕ → Message → Type 0
Fitting m (Add f) = f.bounds ≡ padded 16 (take (2 * m) f.bounds)
Fitting m (Cut f) = f.bounds ≡ padded 16 (take (2 * m) f.bounds)
Fitting m (Post number notice) = notice.numbers ≡ padded 8 (take m notice.numbers)
