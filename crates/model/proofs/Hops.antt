-- The next hop by the brokers' numbers: towards a smaller number it is up the tree; towards a larger one it is the last broker on the way up from there.
use Rattle.std.proofs.Common.{◌≡◌, ℕ, ◌<◌, ◌≤◌, true, cond, eqb, [], ◌∷◌, length, arith}
use Rattle.std.proofs.lemmas.Bool.Decides.{nat_tests}
use Rattle.model.specs.Tree.{Tree, hangs, up, hop}
use Rattle.model.proofs.Tree.{up_less}

pub hop_below : (t : Tree) (c b : ℕ) → hangs t ≡ true → c < b → b ≤ length t → hop t c b ≡ up t b
unfolding hop hangs up
hop_below [] c b h l hb = absurd (omega arith)
hop_below (p ∷ t) c b h l hb =
    let r = hop_below t c b in
    grind (arith, nat_tests)

pub hop_above :
    (t : Tree) (c b : ℕ) → hangs t ≡ true → b < c → c ≤ length t → hop t c b ≡ cond (eqb (up t c) b) c (hop t (up t c) b)
unfolding hop hangs up
hop_above [] c b h l hc = absurd (omega arith)
hop_above (p ∷ t) c b h l hc =
    let r = hop_above t c b in
    let u = up_less t c in
    grind (arith, nat_tests)
