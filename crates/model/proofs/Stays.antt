-- Known to all: it stays so until the subscriber leaves, and it is so when nothing is under way.
use Rattle.std.proofs.Common.{◌≡◌, ℕ, suc, ◌≤◌, true, not, eqb, List, [], ◌∷◌, length, refl, ◌∙◌, arith}
use Rattle.std.proofs.lemmas.Bool.{eq-eqb, and_parts, not-true}
use Rattle.filter.specs.Filter.{Filter, Notice, matches, covers}
use Rattle.filter.proofs.Laws.{same_tells}
use Rattle.cover.specs.Maximal.{among, any_matches}
use Rattle.cover.proofs.Covering.{any_covers_among, any_covers_matches}
use Rattle.cover.proofs.Maximals.{maximal_any_covers, any_covers_self}
use Rattle.model.specs.Tree.{Tree, hangs, hop}
use Rattle.model.specs.Model.{Subscriber, Network, filters_of, Command, step, end, Quiet}
use Rattle.model.specs.Promise.{lasts, OnWay, here, further, HoldsAt, covering, matching, KnownOnWay, KnownToAll, CalledFor, subscribed, is_leave, stays, behind, wants}
use Rattle.model.specs.Invariant.{Right}
use Rattle.model.proofs.Tree.{hop_edge, hop_within}
use Rattle.model.proofs.Messages.{lasts_now, lasts_weaker}
use Rattle.model.proofs.Quiet.{quiet_tables}
use Rattle.model.proofs.Gather.{gathered_has}
use Rattle.model.proofs.Right.{step_right}
use Rattle.model.proofs.Owners.{step_subscribed}
use Rattle.model.proofs.Known.{Way, covering_upward, step_holds}

pub among_filters : (n : ℕ) (w : Filter) (rs : List Subscriber) → subscribed n w rs ≡ true → among w (filters_of rs) ≡ true
unfolding subscribed among filters_of
among_filters n w [] h = h
among_filters n w (r ∷ rs) h =
    let i = among_filters n w rs in
    let j = same_tells w r.filter in
    let k = same_tells r.filter w in
    grind arith

pub wants_matching : (n : ℕ) (e : Notice) (rs : List Subscriber) → wants n e rs ≡ true → any_matches (filters_of rs) e ≡ true
unfolding wants any_matches filters_of
wants_matching n e [] h = h
wants_matching n e (r ∷ rs) h =
    let i = wants_matching n e rs in
    grind arith

module _ (t : Tree) (hung : hangs t ≡ true) (c : ℕ) (hc : c ≤ length t) where
  on_way_within : {b a : ℕ} → OnWay t c b a → b ≤ length t → a ≤ length t
  on_way_within (here ne) hb = hb
  on_way_within {b} (further ne w) hb = on_way_within w (hop_within t c b hung hc hb)

  on_way_apart : {b a : ℕ} → OnWay t c b a → a ≡ c → ⊥
  on_way_apart (here ne) = ne
  on_way_apart (further ne w) = on_way_apart w

  on_way_next : {b a : ℕ} → OnWay t c b a → (hop t c a ≡ c → ⊥) → OnWay t c b (hop t c a)
  on_way_next (here ne) nc = further ne (here nc)
  on_way_next (further ne w) nc = further ne (on_way_next w nc)

  pub on_way : (b : ℕ) → b ≤ length t → Way t c (OnWay t c b)
  on_way b hb =
      record {
        within = λ a w. on_way_within w hb;
        apart = λ a w. on_way_apart w;
        next = λ a w nc. on_way_next w nc;
      }

  pub everywhere : Way t c (λ a. (a ≤ length t) × (a ≡ c → ⊥))
  everywhere =
      record {
        within = λ a w. w.0;
        apart = λ a w. w.1;
        next = λ a w nc. (hop_within t c a hung hc w.0, nc);
      }

  -- what is known on the way stays so while the subscriber stays
  pub stays_known :
      (W : ℕ → Type 0) → Way t c W → (n : ℕ) (w : Filter) (ds : List Command) (s : Network) → Right t s → subscribed n w (s.subscribers c) ≡ true →
      stays c n ds ≡ true → ((a : ℕ) → W a → HoldsAt t s (covering w) c a) → (a : ℕ) → W a → HoldsAt t (end t s ds) (covering w) c a
  unfolding end stays
  stays_known W way n w [] s h there st holds = holds
  stays_known W way n w (d ∷ ds) s h there st holds =
      let (p, q) = and_parts (not (is_leave c n d)) (stays c n ds) st in
      let there' = step_subscribed t s c n w d (not-true (is_leave c n d) p) there in
      stays_known W way n w ds (step t s d) (step_right t hung s d h) there' q
      (λ a wa.
      let self = any_covers_self (s.learned a (hop t c a)) w (lasts_now (covering w) (s.channel (hop t c a) a) (s.learned a (hop t c a)) (holds a wa)) in
      step_holds t hung (covering w) (covering_upward w) c hc W way s h.tables holds d
      (any_covers_among w w (filters_of ((step t s d).subscribers c)) (among_filters n w ((step t s d).subscribers c) there') self)
      a
      wa)

  pub stays_known_on_way :
      (n : ℕ) (w : Filter) (b : ℕ) → b ≤ length t → (ds : List Command) (s : Network) → Right t s → subscribed n w (s.subscribers c) ≡ true →
      stays c n ds ≡ true → KnownOnWay t s c w b → KnownOnWay t (end t s ds) c w b
  unfolding KnownOnWay
  stays_known_on_way n w b hb ds s h there st k = stays_known (OnWay t c b) (on_way b hb) n w ds s h there st k

  pub stays_known_to_all :
      (n : ℕ) (w : Filter) (ds : List Command) (s : Network) → Right t s → subscribed n w (s.subscribers c) ≡ true → stays c n ds ≡ true →
      KnownToAll t s c w → KnownToAll t (end t s ds) c w
  unfolding KnownToAll
  stays_known_to_all n w ds s h there st k b hb ne =
      stays_known (λ a. (a ≤ length t) × (a ≡ c → ⊥)) everywhere n w ds s h there st (λ a p. k a p.0 p.1) b (hb, ne)

  -- known to all is known on the way from every broker
  pub known_on_every_way : (s : Network) (w : Filter) → KnownToAll t s c w → (b : ℕ) → b ≤ length t → KnownOnWay t s c w b
  unfolding KnownToAll KnownOnWay
  known_on_every_way s w k b hb a o = k a (on_way_within o hb) (on_way_apart o)

  pub known_to_all_by_ways : (s : Network) (w : Filter) → ((b : ℕ) → b ≤ length t → KnownOnWay t s c w b) → KnownToAll t s c w
  unfolding KnownToAll KnownOnWay
  known_to_all_by_ways s w k b hb ne = k b hb b (here ne)

  -- a notice that matches what is known on the way is called for there
  pub known_called : (s : Network) (w : Filter) (e : Notice) (b : ℕ) → matches w e ≡ true → KnownOnWay t s c w b → CalledFor t s c e b
  unfolding KnownOnWay CalledFor
  known_called s w e b m k a o =
      lasts_weaker (covering w) (matching e) (λ fs h. any_covers_matches fs w e h m) (s.channel (hop t c a) a) (s.learned a (hop t c a)) (k a o)

  -- when nothing is under way every subscriber's filter is known to all
  pub quiet_known :
      (s : Network) → Right t s → Quiet t s → (n : ℕ) (w : Filter) → subscribed n w (s.subscribers c) ≡ true → covers w w ≡ true → KnownToAll t s c w
  unfolding KnownToAll Quiet lasts behind
  quiet_known s h quiet n w there self b hb ne =
      let m = hop t c b in
      let e = hop_edge t c b hung hc hb ne in
      let q = quiet m b (hop_within t c b hung hc hb) hb in
      let l = quiet_tables t hung s h.tables quiet b m e in
      let g =
      gathered_has w (λ d. eqb (hop t d b) m) (λ d. filters_of (s.subscribers d)) (suc (length t)) c (omega arith) (eq-eqb m m refl)
      (among_filters n w (s.subscribers c) there) in
      rw
      (q, l)
      (maximal_any_covers (behind t s.subscribers b m) w ∙ any_covers_among w w (behind t s.subscribers b m) g self)
