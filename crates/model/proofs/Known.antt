-- What is known on the way to a subscriber's broker stays so while the subscriber stays; by the messages under way, over every command.
use Rattle.std.proofs.Common.{◌≡◌, ℕ, ◌≤◌, Bool, true, false, cond, ◌||◌, eqb, ◌⊎◌, List, [], ◌∷◌, ◌++◌, length, sym, refl, ap, ◌∙◌, inl, inr, arith}
use Rattle.std.proofs.lemmas.Bool.{eqb-true, cases_eq, or_left, or_right}
use Rattle.filter.specs.Filter.{Filter, Notice}
use Rattle.cover.specs.Maximal.{maximal}
use Rattle.cover.specs.Replay.{Between}
use Rattle.cover.proofs.Covering.{any_covers_append, any_matches_append}
use Rattle.cover.proofs.Maximals.{maximal_any_covers, maximal_matches}
use Rattle.cover.proofs.Changes.{between_covers, between_matches}
use Rattle.model.specs.Tree.{Tree, hangs, hop, has, edge, neighbours}
use Rattle.model.specs.Model.{notice, Network, filters_of, from_others, to_announce, announcement, tell, with_posted, Command, step}
use Rattle.model.specs.Promise.{HoldsAt, covering, matching}
use Rattle.model.specs.Invariant.{Tables}
use Rattle.model.proofs.Tree.{hop_edge, hop_within, edge_sym, neighbours_edge}
use Rattle.model.proofs.Messages.{lasts_now, lasts_end}
use Rattle.model.proofs.Lasting.{taken_lasts, arrive_lasts, tell_lasts}
use Rattle.model.proofs.Cases.{by_cases}
use Rattle.model.proofs.Tables.{TablesBut, subscribers_tables, taken_tables}
use Rattle.model.proofs.Quiet.{away_behind}

-- what a property of tables has to be like: some filter of the table has it, and with a filter all that cover it
pub record Upward (P : List Filter → Bool) : Type 0 where
  pub append : (fs gs : List Filter) → P (fs ++ gs) ≡ (P fs || P gs)
  pub top : (fs : List Filter) → P (maximal fs) ≡ P fs
  pub between : (old new gs : List Filter) → Between old new gs → P old ≡ true → P new ≡ true → P gs ≡ true

pub covering_upward : (f : Filter) → Upward (covering f)
covering_upward f =
    record {
      append = λ fs gs. any_covers_append fs gs f;
      top = λ fs. maximal_any_covers fs f;
      between = λ old new gs b p q. between_covers old new gs f b p q;
    }

pub matching_upward : (e : Notice) → Upward (matching e)
matching_upward e =
    record {
      append = λ fs gs. any_matches_append fs gs e;
      top = λ fs. maximal_matches fs e;
      between = λ old new gs b p q. between_matches old new gs e b p q;
    }

from_others_upward :
    (P : List Filter → Bool) → Upward P → (table : ℕ → List Filter) (n m : ℕ) (ns : List ℕ) → has ns m ≡ true → (m ≡ n → ⊥) → P (table m) ≡ true →
    P (from_others table n ns) ≡ true
unfolding from_others has
from_others_upward P up table n m [] h ne p = grind arith
from_others_upward P up table n m (l ∷ ns) h ne p =
    go (eqb l n) refl (eqb l m) refl h (λ i. from_others_upward P up table n m ns i ne p)
  where
    go :
        (v : Bool) → eqb l n ≡ v → (w : Bool) → eqb l m ≡ w → (w || has ns m) ≡ true → (has ns m ≡ true → P (from_others table n ns) ≡ true) →
        P (cond v (from_others table n ns) (table l ++ from_others table n ns)) ≡ true
    go true i true j k r = absurd (ne (sym (eqb-true l m j) ∙ eqb-true l n i))
    go true i false j k r = r k
    go false i true j k r =
        up.append (table l) (from_others table n ns)
        ∙ or_left (P (table l)) (P (from_others table n ns)) (ap (λ x. P (table x)) (eqb-true l m j) ∙ p)
    go false i false j k r = up.append (table l) (from_others table n ns) ∙ or_right (P (table l)) (P (from_others table n ns)) (r k)

-- brokers, and with each all on its way to c, but for c
pub record Way (t : Tree) (c : ℕ) (W : ℕ → Type 0) : Type 0 where
  pub within : (a : ℕ) → W a → a ≤ length t
  pub apart : (a : ℕ) → W a → a ≡ c → ⊥
  pub next : (a : ℕ) → W a → (hop t c a ≡ c → ⊥) → W (hop t c a)

module _ (t : Tree) (hung : hangs t ≡ true) (P : List Filter → Bool) (up : Upward P) (c : ℕ) (hc : c ≤ length t) where
  tell_holds :
      (b : ℕ) (u : Network) → TablesBut t b u → P (filters_of (u.subscribers c)) ≡ true → (a : ℕ) → a ≤ length t → (a ≡ c → ⊥) → HoldsAt t u P c a →
      ((hop t c a ≡ c → ⊥) → HoldsAt t u P c (hop t c a)) → HoldsAt t (tell t b u) P c a
  unfolding tell to_announce
  tell_holds b u h own a ha ne holds onward =
      tell_lasts P n a t b u h (edge_sym t n a ∙ e) holds (λ i gs w. up.between (u.announced n a) new gs w POld (PNewAt (cases_eq n c)))
    where
      n : ℕ
      n = hop t c a

      e : edge t a n ≡ true
      e = hop_edge t c a hung hc ha ne

      hn : n ≤ length t
      hn = hop_within t c a hung hc ha

      new : List Filter
      new = announcement t u n a

      POld : P (u.announced n a) ≡ true
      POld = ap P (sym (h.replays n a (edge_sym t n a ∙ e))) ∙ lasts_end P (u.channel n a) (u.learned a n) holds

      PNewAt : (n ≡ c) ⊎ (n ≡ c → ⊥) → P new ≡ true
      PNewAt (inl i) =
          up.top (filters_of (u.subscribers n) ++ from_others (u.learned n) a (neighbours t n))
          ∙ (up.append (filters_of (u.subscribers n)) (from_others (u.learned n) a (neighbours t n))
          ∙ or_left (P (filters_of (u.subscribers n))) (P (from_others (u.learned n) a (neighbours t n))) (ap (λ x. P (filters_of (u.subscribers x))) i ∙ own))
      PNewAt (inr nc) =
          up.top (filters_of (u.subscribers n) ++ from_others (u.learned n) a (neighbours t n))
          ∙ (up.append (filters_of (u.subscribers n)) (from_others (u.learned n) a (neighbours t n))
          ∙ or_right
          (P (filters_of (u.subscribers n)))
          (P (from_others (u.learned n) a (neighbours t n)))
          (from_others_upward
          P
          up
          (u.learned n)
          a
          (hop t c n)
          (neighbours t n)
          (neighbours_edge t n (hop t c n) hn ∙ hop_edge t c n hung hc hn nc)
          (away_behind t hung c a n hc e refl)
          (lasts_now P (u.channel (hop t c n) n) (u.learned n (hop t c n)) (onward nc))))

  tell_own : (b : ℕ) (u : Network) → P (filters_of ((tell t b u).subscribers c)) ≡ true → P (filters_of (u.subscribers c)) ≡ true
  unfolding tell
  tell_own b u p = p

  -- what holds on the way to c holds there after every command, if it holds of the filters at c
  pub step_holds :
      (W : ℕ → Type 0) → Way t c W → (s : Network) → Tables t s → ((a : ℕ) → W a → HoldsAt t s P c a) → (d : Command) →
      P (filters_of ((step t s d).subscribers c)) ≡ true → (a : ℕ) → W a → HoldsAt t (step t s d) P c a
  step_holds W way s h holds d own =
      by_cases
      t
      s
      (λ d u. P (filters_of (u.subscribers c)) ≡ true → (a : ℕ) → W a → HoldsAt t u P c a)
      (record {
        refused = λ d r own. holds;
        idle = λ x y q own. holds;
        joined = λ b n f hb new. tells b _ (subscribers_tables t b s _ h) holds;
        left = λ b n hb there. tells b _ (subscribers_tables t b s _ h) holds;
        posted = λ b k e hb new own a w. arrive_lasts P (hop t c a) a t b b k e (with_posted s k) (holds a w);
        told = λ x y m ms hx e q tid. tells y _ (taken_tables t s x y m ms e q h) (λ a w. taken_lasts P (hop t c a) a s x y m ms q (holds a w));
        noticed = λ x y j e ms hx f q own a w. arrive_lasts P (hop t c a) a t y x j e _ (taken_lasts P (hop t c a) a s x y (notice j e) ms q (holds a w));
      })
      d
      own
    where
      tells :
          (b : ℕ) (u : Network) → TablesBut t b u → ((a : ℕ) → W a → HoldsAt t u P c a) → P (filters_of ((tell t b u).subscribers c)) ≡ true → (a : ℕ) → W a →
          HoldsAt t (tell t b u) P c a
      tells b u k hold own a w =
          tell_holds b u k (tell_own b u own) a (way.within a w) (way.apart a w) (hold a w) (λ ne. hold (hop t c a) (way.next a w ne))
