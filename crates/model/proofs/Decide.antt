-- The tests for quiet and for known to all tell just that.
use Rattle.std.proofs.Common.{◌≡◌, ℕ, suc, ◌<◌, Bool, true, false, ◌||◌, eqb, List, [], ◌∷◌, length, Decides, refl, ap, arith}
use Rattle.std.proofs.lemmas.Bool.Decides.{Decides-below_and}
use Rattle.std.proofs.lemmas.Bool.{eqb-true, eqb-false}
use Rattle.filter.specs.Filter.{Filter}
use Rattle.model.specs.Tree.{Tree, hop}
use Rattle.model.specs.Model.{Message, Network, Quiet}
use Rattle.model.specs.Promise.{lasts, covering, KnownToAll, all_below, nothing, is_quiet, is_known}
use Rattle.model.specs.Promises.{Tested}

all_below_decides :
    (test : ℕ → Bool) (P : ℕ → Type 0) → ((k : ℕ) → Decides (test k) (P k)) → (n : ℕ) → Decides (all_below test n) ((k : ℕ) → k < n → P k)
unfolding all_below
all_below_decides test P each n = Decides-below_and test P (all_below test) each refl (λ k. refl) n

nothing_decides : (ms : List Message) → Decides (nothing ms) (ms ≡ [])
unfolding nothing
nothing_decides [] = ((λ p. refl), (λ p. refl))
nothing_decides (m ∷ ms) = (
  (λ p. let z : ◌≡◌ {A = ℕ} 0 1 = grind arith in absurd (omega arith)),
  (λ p. let z : ◌≡◌ {A = ℕ} 0 1 = (let w = ap (length {A = Message}) p in absurd (omega arith)) in absurd (omega arith)),
)

quiet_decides : (t : Tree) (s : Network) → Decides (is_quiet t s) (Quiet t s)
unfolding is_quiet Quiet
quiet_decides t s =
    let r =
    all_below_decides
    (λ a. all_below (λ b. nothing (s.channel a b)) (suc (length t)))
    (λ a. (b : ℕ) → b < suc (length t) → s.channel a b ≡ [])
    (λ a. all_below_decides (λ b. nothing (s.channel a b)) (λ b. s.channel a b ≡ []) (λ b. nothing_decides (s.channel a b)) (suc (length t)))
    (suc (length t)) in
    ((λ p a b ha hb. r.0 p a (omega arith) b (omega arith)), (λ q. r.1 (λ a la b lb. q a b (omega arith) (omega arith))))

known_decides : (t : Tree) (s : Network) (c : ℕ) (f : Filter) → Decides (is_known t s c f) (KnownToAll t s c f)
unfolding is_known KnownToAll
known_decides t s c f =
    let r = all_below_decides (λ b. eqb b c || holds b) (λ b. (b ≡ c → ⊥) → holds b ≡ true) each (suc (length t)) in
    ((λ p b hb ne. r.0 p b (omega arith) ne), (λ q. r.1 (λ b l ne. q b (omega arith) ne)))
  where
    holds : ℕ → Bool
    holds b = lasts (covering f) (s.channel (hop t c b) b) (s.learned b (hop t c b))

    each : (b : ℕ) → Decides (eqb b c || holds b) ((b ≡ c → ⊥) → holds b ≡ true)
    each b = go (eqb b c) refl
      where
        go : (v : Bool) → eqb b c ≡ v → Decides (v || holds b) ((b ≡ c → ⊥) → holds b ≡ true)
        go true i = ((λ p ne. absurd (ne (eqb-true b c i))), (λ q. refl))
        go false i = ((λ p ne. p), (λ q. q (eqb-false b c i)))

pub tested : Tested
tested t s = record { quiet = quiet_decides t s; known = known_decides t s }
