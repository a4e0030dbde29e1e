-- Whether there is room on the channels that a notice goes on to: only those of the brokers who wish for it count.
use Rattle.std.proofs.Common.{◌≡◌, ℕ, zero, suc, ◌+◌, ◌<◌, ◌≤◌, Bool, true, false, cond, not, ◌&&◌, eqb, leb, List, [], ◌∷◌, ◌++◌, length, get_or, take, Some, None, Option, sym, refl, ap, ◌∙◌, arith, take-suc}
use lib.Seq.{take-length}
use Rattle.std.proofs.lemmas.List.{append-nil}
use Rattle.std.proofs.lemmas.Bool.{le-leb, cond-true}
use Rattle.filter.specs.Filter.{Filter, Notice}
use Rattle.cover.specs.Maximal.{any_matches}
use Rattle.broker.specs.Forwarding.{wanting}
use Rattle.model.specs.Model.{Message, notice, passed_on}
use Rattle.routing.specs.Rooms.{first, full}
use Rattle.layout.specs.declared.refusal.Refusal.{Refusal}
use Rattle.layout.specs.declared.refusal.Refusal.TheVariants.{ChannelFull}
use Rattle.routing.proofs.Room.{last_rule}

first_left : (r : Option Refusal) → first (r ∷ None ∷ []) ≡ r
first_left None = refl
first_left (Some x) = refl

-- one neighbour more
full_push : (room : ℕ) (channel out : ℕ → List Message) (ns : List ℕ) (n : ℕ) →
    full room channel out (ns ++ n ∷ []) ≡ first (full room channel out ns ∷ full room channel out (n ∷ []) ∷ [])
unfolding full
full_push room channel out [] n = sym (last_rule (full room channel out (n ∷ [])))
full_push room channel out (m ∷ ns) n = go (leb (length (channel m) + length (out m)) room) (full_push room channel out ns n)
  where
    go : (t : Bool) → full room channel out (ns ++ n ∷ []) ≡ first (full room channel out ns ∷ full room channel out (n ∷ []) ∷ []) →
        cond t (full room channel out (ns ++ n ∷ [])) (Some (ChannelFull m)) ≡ first (cond t (full room channel out ns) (Some (ChannelFull m)) ∷ full room channel out (n ∷ []) ∷ [])
    go true i = i
    go false i = refl

-- the notice goes on where the test passes, and else nothing does
pub passed_is : (from k : ℕ) (e : Notice) (learned : ℕ → List Filter) (n : ℕ) (t : Bool) → (not (eqb n from) && any_matches (learned n) e) ≡ t →
    passed_on from k e learned n ≡ cond t (notice k e ∷ []) []
unfolding passed_on
passed_is from k e learned n t p = ap (λ u. cond u (notice k e ∷ []) []) p

module _ (room : ℕ) (channel : ℕ → List Message) (learned : ℕ → List Filter) (ns : List ℕ) (from k : ℕ) (e : Notice) (within : (j : ℕ) → j < length ns → length (channel (get_or ns j 0)) ≤ room) where
  -- a neighbour who wishes for the notice, and one who does not
  wishes : (n : ℕ) → (not (eqb n from) && any_matches (learned n) e) ≡ true →
      full room channel (λ m. notice k e ∷ []) (n ∷ []) ≡ full room channel (passed_on from k e learned) (n ∷ [])
  unfolding full
  wishes n p = ap (λ ms. cond (leb (length (channel n) + length ms) room) None (Some (ChannelFull n))) (sym (passed_is from k e learned n true p))

  wishes_not : (n : ℕ) → (not (eqb n from) && any_matches (learned n) e) ≡ false → length (channel n) ≤ room → full room channel (passed_on from k e learned) (n ∷ []) ≡ None
  unfolding full
  wishes_not n p l =
      ap (λ ms. cond (leb (length (channel n) + length ms) room) None (Some (ChannelFull n))) (passed_is from k e learned n false p)
      ∙ cond-true (leb (length (channel n) + 0) room) None (Some (ChannelFull n)) (le-leb (length (channel n) + 0) room (omega arith))

  wanted_first : (i : ℕ) → i ≤ length ns →
      full room channel (λ m. notice k e ∷ []) (wanting (λ j. learned (get_or ns j 0)) ns from e i) ≡ full room channel (passed_on from k e learned) (take i ns)
  unfolding wanting full
  wanted_first zero l = refl
  wanted_first (suc i) l =
      go (not (eqb (get_or ns i 0) from) && any_matches (learned (get_or ns i 0)) e) refl (wanted_first i (omega arith))
      ∙ ap (full room channel (passed_on from k e learned)) (sym (take-suc ns i 0 (omega arith)))
    where
      ws : List ℕ
      ws = wanting (λ j. learned (get_or ns j 0)) ns from e i

      n : ℕ
      n = get_or ns i 0

      go : (t : Bool) → (not (eqb n from) && any_matches (learned n) e) ≡ t → full room channel (λ m. notice k e ∷ []) ws ≡ full room channel (passed_on from k e learned) (take i ns) →
          full room channel (λ m. notice k e ∷ []) (ws ++ cond t (n ∷ []) []) ≡ full room channel (passed_on from k e learned) (take i ns ++ n ∷ [])
      go true p r =
          full_push room channel (λ m. notice k e ∷ []) ws n
          ∙ (λ x. first (r x ∷ wishes n p x ∷ []))
          ∙ sym (full_push room channel (passed_on from k e learned) (take i ns) n)
      go false p r =
          ap (full room channel (λ m. notice k e ∷ [])) (append-nil ws)
          ∙ r
          ∙ sym (full_push room channel (passed_on from k e learned) (take i ns) n
          ∙ ap (λ x. first (full room channel (passed_on from k e learned) (take i ns) ∷ x ∷ [])) (wishes_not n p (within i (omega arith)))
          ∙ first_left (full room channel (passed_on from k e learned) (take i ns)))

  -- the first full channel of those that the notice goes on to is the first of all that lack room for what goes on to them
  pub full_wanted :
      full room channel (λ m. notice k e ∷ []) (wanting (λ j. learned (get_or ns j 0)) ns from e (length ns)) ≡ full room channel (passed_on from k e learned) ns
  full_wanted = wanted_first (length ns) (omega arith) ∙ ap (full room channel (passed_on from k e learned)) (take-length ns)
