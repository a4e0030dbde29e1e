-- Whether the channels from a broker have room for what is to be sent on them, one neighbour after the other.
use Rattle.std.proofs.Common.{◌≡◌, ℕ, suc, ◌+◌, ◌-◌, ◌<◌, ◌≤◌, Bool, true, false, cond, eqb, leb, ◌⊎◌, List, [], ◌∷◌, length, get_or, drop, Some, None, Option, sym, refl, ap, ◌∙◌, inl, inr, mul-le-mul_right, arith, length-append}
use Rattle.std.proofs.lemmas.List.{drop_more, drop_all}
use Rattle.std.proofs.lemmas.Bool.{leb-true, eqb-true, or_cases}
use Rattle.filter.specs.Filter.{Filter}
use Rattle.cover.specs.Maximal.{minus}
use Rattle.channel.specs.declared.batch.Change.{Change}
use Rattle.channel.specs.declared.batch.Change.TheVariants.{Add, Cut}
use Rattle.model.specs.Tree.{has}
use Rattle.model.specs.Model.{Message, adds, cuts, batch}
use Rattle.layout.specs.Parts.{filters_room}
use Rattle.layout.specs.Mail.{telling}
use Rattle.routing.specs.Rooms.{first, full}
use Rattle.layout.specs.declared.opening.Opening.{Opening}
use Rattle.layout.specs.declared.refusal.Refusal.{Refusal}
use Rattle.layout.specs.declared.refusal.Refusal.TheVariants.{ChannelFull}

-- the last of the rules is the answer where none before it applies
pub last_rule : (r : Option Refusal) → first (r ∷ []) ≡ r
last_rule None = refl
last_rule (Some e) = refl

-- a message for each filter
pub length_telling : (change : Change) (fs : List Filter) → length (telling change fs) ≡ length fs
unfolding adds cuts
length_telling Add [] = refl
length_telling Add (f ∷ fs) = ap suc (length_telling Add fs)
length_telling Cut [] = refl
length_telling Cut (f ∷ fs) = ap suc (length_telling Cut fs)

pub length_batch : (old new : List Filter) → length (batch old new) ≡ length (minus new old) + length (minus old new)
unfolding batch
length_batch old new =
    let p = length-append (adds (minus new old)) (cuts (minus old new)) in
    let q = length_telling Add (minus new old) in
    let r = length_telling Cut (minus old new) in
    omega arith

-- a table has room for no more than 975 filters
pub filters_few : (o : Opening) → filters_room o ≤ 975
filters_few o =
    let v = o.valid.1 in
    let w = o.valid.2 in
    let p = mul-le-mul_right (o.subscribers + 1) (few v) in
    omega arith
  where
    few : (1 ≤ o.brokers) × (o.brokers ≤ 16) → o.brokers - 1 ≤ 15
    few v = omega arith

module _ (room : ℕ) (channel out : ℕ → List Message) where
  -- so far every channel had room: the one to the next neighbour, n, has room or has none, and at the end
  step : (ns : List ℕ) (j n : ℕ) (t : Bool) → j < length ns → n ≡ get_or ns j 0 → t ≡ leb (length (channel n) + length (out n)) room →
      full room channel out (drop j ns) ≡ cond t (full room channel out (drop (j + 1) ns)) (Some (ChannelFull n))
  unfolding full
  step ns j n t l e h =
      ap (full room channel out) (drop_more ns j 0 l)
      ∙ ap (λ k. cond (leb (length (channel k) + length (out k)) room) (full room channel out (drop (j + 1) ns)) (Some (ChannelFull k))) (sym e)
      ∙ ap (λ u. cond u (full room channel out (drop (j + 1) ns)) (Some (ChannelFull n))) (sym h)

  pub full_next : (ns : List ℕ) (j n : ℕ) → j < length ns → n ≡ get_or ns j 0 → true ≡ leb (length (channel n) + length (out n)) room →
      full room channel out (drop j ns) ≡ full room channel out (drop (j + 1) ns)
  full_next ns j n l e h = step ns j n true l e h

  pub full_here : (ns : List ℕ) (j n : ℕ) → j < length ns → n ≡ get_or ns j 0 → false ≡ leb (length (channel n) + length (out n)) room →
      full room channel out (drop j ns) ≡ Some (ChannelFull n)
  full_here ns j n l e h = step ns j n false l e h

  pub full_done : (ns : List ℕ) (j : ℕ) → length ns ≤ j → full room channel out (drop j ns) ≡ None
  unfolding full
  full_done ns j l = ap (full room channel out) (drop_all j ns l)

  -- where none is full, each has room
  pub full_none : (ns : List ℕ) (n : ℕ) → full room channel out ns ≡ None → has ns n ≡ true → length (channel n) + length (out n) ≤ room
  unfolding full has
  full_none [] n f h = absurd (grind arith)
  full_none (k ∷ ns) n f h = go (leb (length (channel k) + length (out k)) room) refl f (or_cases (eqb k n) (has ns n) h) (full_none ns n)
    where
      go : (t : Bool) → leb (length (channel k) + length (out k)) room ≡ t → cond t (full room channel out ns) (Some (ChannelFull k)) ≡ None →
          (eqb k n ≡ true) ⊎ (has ns n ≡ true) → (full room channel out ns ≡ None → has ns n ≡ true → length (channel n) + length (out n) ≤ room) →
          length (channel n) + length (out n) ≤ room
      go true e g (inl i) r =
          let p = eqb-true k n i in
          rw (sym p) (leb-true (length (channel k) + length (out k)) room e)
      go true e g (inr i) r = r g i
      go false e g i r = absurd (let z : ◌≡◌ {A = ℕ} 0 1 = cc in omega arith)
