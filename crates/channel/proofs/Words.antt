-- The words of a message in its slot.
use Rattle.std.proofs.Common.{◌≡◌, ℕ, zero, suc, ◌+◌, ◌-◌, ◌*◌, ◌≤◌, List, ◌∷◌, ◌++◌, length, take, set, replicate, sym, refl, ap, ◌∙◌, arith}
use borrow.Rule.Slice.PartMut.{put_mid}
use Rattle.std.proofs.lemmas.List.{drop-replicate, length-take, take-take, take_at}
use Rattle.filter.specs.Filter.{padded}
use Rattle.filter.proofs.Padding.{length_padded}
use Rattle.channel.specs.declared.message.Message.{Message}
use Rattle.channel.specs.declared.message.Message.TheVariants.{Add, Cut, Notice as Post}
use Rattle.channel.specs.Message.{words, message, Fitting}

-- a cleared slot with a kind, a number and a row of numbers written over it
pub put_over : (n kind number : ℕ) (xs : List ℕ) → 2 + length xs ≤ n →
    put_mid 2 (length xs) (set (set (replicate n 0) 0 kind) 1 number) xs ≡ kind ∷ (number ∷ (xs ++ replicate (n - (2 + length xs)) 0))
put_over zero kind number xs h = absurd (omega arith)
put_over (suc zero) kind number xs h = absurd (omega arith)
put_over (suc (suc n)) kind number xs h =
    let e : suc (suc n) - (2 + length xs) ≡ n - length xs = omega arith in
    let d = drop-replicate {X = ℕ} (length xs) n 0 in
    rw (e, ← d) refl

-- the numbers of a filter, read back
filter_back : (m : ℕ) (bs : List ℕ) → take (2 + 2 * m - 2) (take (2 * m) bs) ≡ take (2 * m) bs
filter_back m bs =
    let e : 2 + 2 * m - 2 ≡ 2 * m = omega arith in
    rw e (take-take (2 * m) (2 * m) bs (omega arith))

-- the numbers of a notice, read back from in front of the zeros
notice_back : (m : ℕ) (ns : List ℕ) → m ≤ length ns → take (2 + m - 2) (take m ns ++ replicate m 0) ≡ take m ns
notice_back m ns h =
    let e : 2 + m - 2 ≡ m = omega arith in
    rw e (take_at (take m ns) (replicate m 0) m (omega (arith, length-take m ns)))

pub round_trip : (m : ℕ) (a : Message) → m ≤ 8 → Fitting m a → message m (words m a) ≡ a
round_trip m (Add f) h e = ap (λ bs. Add (record { bounds = bs })) (ap (padded 16) (filter_back m f.bounds) ∙ sym e)
round_trip m (Cut f) h e = ap (λ bs. Cut (record { bounds = bs })) (ap (padded 16) (filter_back m f.bounds) ∙ sym e)
round_trip m (Post number notice) h e =
    let l : length notice.numbers ≡ 8 = ap length e ∙ length_padded 8 (take m notice.numbers) in
    ap (λ ns. Post number (record { numbers = ns })) (ap (padded 8) (notice_back m notice.numbers (omega arith)) ∙ sym e)

pub words_differ : (m : ℕ) (a b : Message) → m ≤ 8 → Fitting m a → Fitting m b → words m a ≡ words m b → a ≡ b
words_differ m a b h p q e = sym (round_trip m a h p) ∙ ap (message m) e ∙ round_trip m b h q
