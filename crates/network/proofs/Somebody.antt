-- The subscriber with a number at a broker, and its filter, as they are read from the memory.
use Rattle.std.proofs.Common.{◌≡◌, ℕ, ◌*◌, Bool, true, false, cond, not, ◌||◌, eqb, ltb, List, [], ◌∷◌, length, take, IsErrAnd, Some, None, Result, sym, refl, ap, ◌∙◌, subst, arith, MatchResult}
use Rattle.std.specs.List.{AllByRecursion}
use Rattle.std.proofs.lemmas.Result.{err_from_is_err_and}
use Rattle.filter.specs.Filter.{padded}
use Rattle.filter.specs.declared.value.Filter.{Filter as Ranges}
use Rattle.broker.specs.Subscribers.{Holds, subscribers}
use Rattle.broker.proofs.Part.{subscribers_held}
use Rattle.model.specs.Model.{Subscriber, Network, known, filter_of}
use Rattle.routing.specs.Rooms.{first, when}
use Rattle.network.specs.Promised.{nobody}
use Rattle.layout.specs.declared.opening.Opening.{Opening}
use Rattle.layout.specs.declared.refusal.Refusal.TheVariants.{NoSuchBroker, NotSubscribed}
use Rattle.steps.proofs.Oldest.{front_padded}
use Rattle.steps.proofs.Options.{found, found_is, missed}

-- the filter of one of these subscribers is as wide as all of theirs
filter_wide : (w n : ℕ) (rs : List Subscriber) → AllByRecursion (λ r. length r.filter ≡ w) rs → known n rs ≡ true → length (filter_of n rs) ≡ w
unfolding known filter_of
filter_wide w n [] h k = let z : ◌≡◌ {A = ℕ} 0 1 = grind arith in absurd (omega arith)
filter_wide w n (r ∷ rs) h k = go (eqb r.number n) k (filter_wide w n rs h.1)
  where
    go : (v : Bool) → (v || known n rs) ≡ true → (known n rs ≡ true → length (filter_of n rs) ≡ w) → length (cond v r.filter (filter_of n rs)) ≡ w
    go true k i = h.0
    go false k i = i k

module _ (o : Opening) (s : Network) (b n : ℕ) (there : ltb b o.brokers ≡ true) where
  nobody_by : (v : Bool) → known n (s.subscribers b) ≡ v → nobody o s b n ≡ when (not v) (NotSubscribed n)
  nobody_by v k = (λ i. first (when (not (there i)) (NoSuchBroker b) ∷ when (not (k i)) (NotSubscribed n) ∷ [])) ∙ only v
    where
      only : (v : Bool) → first (when (not v) (NotSubscribed n) ∷ []) ≡ when (not v) (NotSubscribed n)
      only true = refl
      only false = refl

-- the subscribers of b are in some words, and the filter of the one with the number n was asked for there
module _ (o : Opening) (s : Network) (b n : ℕ) (there : ltb b o.brokers ≡ true) (ws : List ℕ) (h : Holds o.subscribers o.ranges (s.subscribers b) ws) where
  same : subscribers o.ranges ws ≡ s.subscribers b
  same = subscribers_held o.subscribers o.ranges (s.subscribers b) ws h

  module _ (x : Ranges) (asked : Some x ≡ cond (known n (subscribers o.ranges ws)) (Some (record { bounds = padded 16 (filter_of n (subscribers o.ranges ws)) })) None) where
    here : known n (s.subscribers b) ≡ true
    here = ap (known n) (sym same) ∙ found _ _ x asked

    pub somebody : nobody o s b n ≡ None
    somebody = nobody_by o s b n there true here

    pub filter_read : take (2 * o.ranges) x.bounds ≡ filter_of n (s.subscribers b)
    filter_read =
        let w = filter_wide (2 * o.ranges) n (s.subscribers b) h.wide here in
        let v = o.valid.0.1 in
        ap (λ y. take (2 * o.ranges) y.bounds) (found_is _ _ x asked)
        ∙ ap (λ rs. take (2 * o.ranges) (padded 16 (filter_of n rs))) same
        ∙ front_padded 16 (2 * o.ranges) (filter_of n (s.subscribers b)) w (omega arith)

  pub nobody_there : (x : Ranges) → None ≡ cond (known n (subscribers o.ranges ws)) (Some x) None → nobody o s b n ≡ Some (NotSubscribed n)
  nobody_there x asked = nobody_by o s b n there false (ap (known n) (sym same) ∙ missed _ x asked)

-- an answer that hands a refusal on, where that is so
pub handed_on : {A E : Type 0} (r : Result A E) (P : A → Type 0) (Q : E → Type 0) (e : E) → IsErrAnd r (λ y. y ≡ e) → Q e → MatchResult r P Q
handed_on r P Q e h q =
    let (y, is, same) = err_from_is_err_and r h in
    subst (λ x. MatchResult x P Q) (sym is) (subst Q (sym same) q)
