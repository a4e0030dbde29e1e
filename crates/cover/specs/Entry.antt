-- What the entry that finds what has to be announced answers and leaves behind, over the numbers that it is lent.
use Rattle.std.specs.Prelude.{◌≡◌, ℕ, ◌+◌, ◌*◌, Bool, cond, ◌&&◌, List, ◌∷◌, ◌++◌, length, drop, Some, None, Option, Ok, Err, Result, nat_le, slice_index}
use Rattle.filter.specs.Filter.{Filter}
use Rattle.cover.specs.Maximal.{maximal, minus}
use Rattle.cover.specs.Table.{rows, written}
use Rattle.cover.specs.declared.telling.Unfit.{Unfit}
use Rattle.cover.specs.declared.telling.Unfit.TheVariants.{Known, Said, Mail}

-- n filters of m pairs each
abbrev pub filters_in : ℕ → ℕ → List ℕ → List Filter
filters_in m n xs = rows (2 * m) n xs

-- known begins with the count of pairs and the count of filters; said with the count of filters last announced
unfoldable pub to_announce : (known : List ℕ) → List Filter
to_announce known = maximal (filters_in (slice_index known 0) (slice_index known 1) (drop 2 known))

unfoldable pub announced_before : (known said : List ℕ) → List Filter
announced_before known said = filters_in (slice_index known 0) (slice_index said 0) (drop 1 said)

-- the answer in full: what is unfit leaves both rows as they were; else said holds what has to be announced now, and mail how many filters are to be
-- added and how many cut, and these; past that both rows hold what they held
unfoldable pub TellSays : (known said mail : List ℕ) → (why : Option Unfit) → Result ℕ Unfit → (said₁ mail₁ : List ℕ) → Type 0
TellSays known said mail None r said₁ mail₁ =
    let now_said = to_announce known in
    let before = announced_before known said in
    let more = minus now_said before in
    let less = minus before now_said in
    (r ≡ Ok (length more + length less))
    × (said₁ ≡ length now_said ∷ (written now_said ++ drop (1 + 2 * slice_index known 0 * length now_said) said))
    × (mail₁ ≡ length more ∷ (length less ∷ (written more ++ (written less ++ drop (2 + 2 * slice_index known 0 * (length more + length less)) mail))))
TellSays known said mail (Some why) r said₁ mail₁ = (r ≡ Err why) × (said₁ ≡ said) × (mail₁ ≡ mail)

-- from 1 to 8 pairs, at most 1,024 filters, and all of them there
unfoldable pub known_whole : (known : List ℕ) → Bool
known_whole known =
    nat_le 2 (length known) && (nat_le 1 (slice_index known 0) && (nat_le (slice_index known 0) 8 && (nat_le (slice_index known 1) 1024 && nat_le (2 + 2 * slice_index known 0 * slice_index known 1) (length known))))

-- at most 1,024 filters, and all of them there
unfoldable pub said_whole : (known said : List ℕ) → Bool
said_whole known said = nat_le 1 (length said) && (nat_le (slice_index said 0) 1024 && nat_le (1 + 2 * slice_index known 0 * slice_index said 0) (length said))

-- the first row that is cut short or too short, if one is: said has room for 1,024 filters of 8 pairs, and mail for twice as many
unfoldable pub unfit : (known said mail : List ℕ) → Option Unfit
unfit known said mail =
    cond (known_whole known) (cond (said_whole known said && nat_le 16385 (length said)) (cond (nat_le 32770 (length mail)) None (Some Mail)) (Some Said)) (Some Known)
