-- The oldest message on a channel, as it is read from the words there.
use Rattle.std.proofs.Common.{◌≡◌, ℕ, ◌+◌, ◌-◌, ◌*◌, ◌≤◌, cond, ltb, ◌⊎◌, List, [], ◌∷◌, ◌++◌, map, length, get_or, take, replicate, Some, None, sym, refl, ap, ◌∙◌, subst, inl, inr, arith}
use Rattle.std.specs.List.{AllByRecursion}
use Rattle.std.proofs.lemmas.List.{take-take, take_at, take_all}
use Rattle.std.proofs.lemmas.Bool.{ltb-false}
use Rattle.filter.specs.Filter.{padded}
use Rattle.filter.specs.declared.value.Filter.{Filter as Ranges}
use Rattle.filter.specs.declared.value.Notice.{Notice}
use Rattle.channel.specs.Message.{words, message as meant}
use Rattle.channel.specs.declared.message.Message.{Message as Sent}
use Rattle.channel.specs.declared.message.Message.TheVariants.{Add, Cut, Notice as Post}
use Rattle.model.specs.Model.{Message, add, cut, notice}
use Rattle.layout.specs.Mail.{row_for, message_in, Sized, Carries}
use Rattle.steps.proofs.Options.{found_is, missed}

pub front_padded : (n k : ℕ) (xs : List ℕ) → length xs ≡ k → k ≤ n → take k (padded n xs) ≡ xs
front_padded n k xs l h = take-take k n (xs ++ replicate n 0) h ∙ take_at xs (replicate n 0) k l

-- the numbers of a filter's row, and those of a notice's without the zeros behind them
filter_read : (m : ℕ) (f : List ℕ) → m ≤ 8 → length f ≡ 2 * m → take (2 * m) (padded 16 (take (2 + 2 * m - 2) f)) ≡ f
filter_read m f h l =
    let z : 2 + 2 * m - 2 ≡ 2 * m = omega arith in
    ap (λ g. take (2 * m) (padded 16 g)) (ap (λ k. take k f) z ∙ take_all (2 * m) f (omega arith)) ∙ front_padded 16 (2 * m) f l (omega arith)

numbers_read : (m : ℕ) (e : List ℕ) → m ≤ 8 → length e ≡ m → take m (padded 8 (take (2 + m - 2) (e ++ replicate m 0))) ≡ e
numbers_read m e h l =
    let z : 2 + m - 2 ≡ m = omega arith in
    ap (λ g. take m (padded 8 g)) (ap (λ k. take k (e ++ replicate m 0)) z ∙ take_at e (replicate m 0) m l) ∙ front_padded 8 m e l h

-- a message read from its row, and its words again
pub read_back : (m : ℕ) (p : Message) → m ≤ 8 → Sized m p → message_in m (words m (meant m (row_for m p))) ≡ p
read_back m (add f) h s = ap add (filter_read m f h s)
read_back m (cut f) h s = ap cut (filter_read m f h s)
read_back m (notice k e) h s = ap (λ g. notice k (take m (g ++ replicate m 0))) (numbers_read m e h s) ∙ ap (notice k) (take_at e (replicate m 0) m s)

notice_read : (m : ℕ) (p : Message) → m ≤ 8 → Sized m p → (n : ℕ) (e : Notice) → Post n e ≡ meant m (row_for m p) → p ≡ notice n (take m e.numbers)
notice_read m (add f) h s n e q = let z : ◌≡◌ {A = ℕ} 0 1 = cc in absurd (omega arith)
notice_read m (cut f) h s n e q = let z : ◌≡◌ {A = ℕ} 0 1 = cc in absurd (omega arith)
notice_read m (notice k x) h s n e q =
    let a : k ≡ n = cc in
    let b : e ≡ record { numbers = padded 8 (take (2 + m - 2) (x ++ replicate m 0)) } = cc in
    λ i. notice (a i) ((sym (numbers_read m x h s) ∙ sym (ap (λ v. take m v.numbers) b)) i)

-- the messages of a channel of which the first was asked for: there is none, or it is the oldest
pub nothing_there : (m : ℕ) (ms : List Message) (x : Sent) → None ≡ cond (ltb 0 (length (map (row_for m) ms))) (Some x) None → ms ≡ []
nothing_there m [] x e = refl
nothing_there m (p ∷ ps) x e = absurd (omega (arith, ltb-false 0 (length (map (row_for m) (p ∷ ps))) (missed _ x e)))

oldest_there : (m : ℕ) (ms : List Message) (x : Sent) →
    Some x ≡ cond (ltb 0 (length (map (row_for m) ms))) (Some (meant m (get_or (map (row_for m) ms) 0 []))) None →
    (p : Message) × (ps : List Message) × (ms ≡ p ∷ ps) × (x ≡ meant m (row_for m p))
oldest_there m [] x e = let z : ◌≡◌ {A = ℕ} 0 1 = cc in absurd (omega arith)
oldest_there m (p ∷ ps) x e = (p, ps, refl, found_is _ _ x e)

-- the channel carries the messages
module _ (room m : ℕ) (ms : List Message) (ws : List ℕ) (c : Carries room m ms ws) (few : m ≤ 8) (x : Sent)
    (asked : Some x ≡ cond (ltb 0 (length (map (row_for m) ms))) (Some (meant m (get_or (map (row_for m) ms) 0 []))) None) where
  pub oldest_is : (ps : List Message) × (ms ≡ message_in m (words m x) ∷ ps)
  oldest_is =
      let (p, ps, e, i) = oldest_there m ms x asked in
      let s = (subst (AllByRecursion (Sized m)) e c.sized).0 in
      (ps, e ∙ ap (λ y. y ∷ ps) (sym (ap (λ y. message_in m (words m y)) i ∙ read_back m p few s)))

  pub oldest_notice : (n : ℕ) (v : Notice) → x ≡ Post n v → (ps : List Message) × (ms ≡ notice n (take m v.numbers) ∷ ps)
  oldest_notice n v is =
      let (p, ps, e, i) = oldest_there m ms x asked in
      let s = (subst (AllByRecursion (Sized m)) e c.sized).0 in
      (ps, e ∙ ap (λ y. y ∷ ps) (notice_read m p few s n v (sym is ∙ i)))

-- an add and a cut are no notices
pub no_notice : (x : Sent) → ((f : Ranges) × (x ≡ Add f)) ⊎ ((f : Ranges) × (x ≡ Cut f)) → (n : ℕ) (v : Notice) → x ≡ Post n v → ⊥
no_notice x (inl (f, e)) n v h = omega (arith, ap (λ y. get_or (words 0 y) 0 0) (sym e ∙ h))
no_notice x (inr (f, e)) n v h = omega (arith, ap (λ y. get_or (words 0 y) 0 0) (sym e ∙ h))
