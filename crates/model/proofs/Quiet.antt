-- When nothing is under way, each learned table is the maximal filters of all subscribers behind.
use Rattle.std.proofs.Common.{◌≡◌, ℕ, zero, suc, ◌<◌, ◌≤◌, true, not, eqb, ◌⊎◌, List, ◌++◌, length, sym, refl, ap, ◌∙◌, inl, inr, arith}
use Rattle.std.proofs.lemmas.Bool.{eqb-true, eq-eqb, ne_eqb, cases_eq}
use Rattle.filter.specs.Filter.{Filter}
use Rattle.cover.specs.Maximal.{among, maximal}
use Rattle.cover.proofs.Maximals.{maximal_same_members}
use Rattle.model.specs.Tree.{Tree, hangs, hop, edge, neighbours, rank}
use Rattle.model.specs.Model.{Subscriber, Network, filters_of, from_others, to_announce, Quiet}
use Rattle.model.specs.Promise.{replay, gathered, behind}
use Rattle.model.specs.Invariant.{Tables}
use Rattle.model.proofs.Tree.{hop_self, hop_edge, hop_one_way, edge_within, edge_sym, edge_apart, neighbours_edge, rank_falls}
use Rattle.cover.proofs.Members.{among_left, among_right, among_parts}
use Rattle.model.proofs.Gather.{both, from_others_find, from_others_has, gathered_find, gathered_has, from_others_maximal}

module _ (t : Tree) (hung : hangs t ≡ true) where
  -- seen from b beside n, a broker is behind n just if the way from n to it does not lead over b
  pub behind_away : (c b n : ℕ) → c ≤ length t → edge t b n ≡ true → (hop t c n ≡ b → ⊥) → hop t c b ≡ n
  behind_away c b n hc e ne =
      let o = hop_one_way t c b n hung hc e in
      let i = ne_eqb (hop t c n) b ne in
      eqb-true (hop t c b) n (o ∙ ap not i)

  pub away_behind : (c b n : ℕ) → c ≤ length t → edge t b n ≡ true → hop t c b ≡ n → hop t c n ≡ b → ⊥
  away_behind c b n hc e i j =
      let o = hop_one_way t c b n hung hc e in
      let p = eq-eqb (hop t c b) n i in
      let q = eq-eqb (hop t c n) b j in
      grind arith

  -- who is behind n, seen from b: those at n itself, and those behind each other neighbour of n
  pub behind_members :
      (subs : ℕ → List Subscriber) (b n : ℕ) → edge t b n ≡ true → (f : Filter) →
      among f (filters_of (subs n) ++ from_others (behind t subs n) b (neighbours t n)) ≡ among f (behind t subs b n)
  unfolding behind
  behind_members subs b n e f =
      both (among f (filters_of (subs n) ++ from_others (behind t subs n) b (neighbours t n))) (among f (behind t subs b n)) to from
    where
      hn : n ≤ length t
      hn = (edge_within t b n hung e).1

      hb : b ≤ length t
      hb = (edge_within t b n hung e).0

      at : ℕ → List Filter
      at c = filters_of (subs c)

      away : (c : ℕ) → c ≤ length t → (hop t c n ≡ b → ⊥) → among f (at c) ≡ true → among f (gathered (λ d. eqb (hop t d b) n) at (suc (length t))) ≡ true
      away c hc ne h =
          gathered_has f (λ d. eqb (hop t d b) n) at (suc (length t)) c (omega arith) (eq-eqb (hop t c b) n (behind_away c b n hc e ne)) h

      to :
          among f (filters_of (subs n) ++ from_others (behind t subs n) b (neighbours t n)) ≡ true →
          among f (gathered (λ d. eqb (hop t d b) n) at (suc (length t))) ≡ true
      to h =
          elim (among_parts f (filters_of (subs n)) (from_others (behind t subs n) b (neighbours t n)) h) [
            | inl p ↦ away n hn (λ i. edge_apart t hung b n e (sym i ∙ hop_self t n)) p
            | inr p ↦
                (let (m, i, ne, q) = from_others_find f (behind t subs n) b (neighbours t n) p in
                let (c, l, j, o) = gathered_find f (λ d. eqb (hop t d n) m) at (suc (length t)) q in
                away c (omega arith) (λ k. ne (sym (eqb-true (hop t c n) m j) ∙ k)) o)
          ]

      via :
          (c : ℕ) → c ≤ length t → hop t c b ≡ n → among f (at c) ≡ true → (c ≡ n) ⊎ (c ≡ n → ⊥) →
          among f (filters_of (subs n) ++ from_others (behind t subs n) b (neighbours t n)) ≡ true
      via c hc j o (inl i) = among_left f (filters_of (subs n)) (from_others (behind t subs n) b (neighbours t n)) (rw i at o)
      via c hc j o (inr ne) =
          among_right
          f
          (filters_of (subs n))
          (from_others (behind t subs n) b (neighbours t n))
          (from_others_has
          f
          (behind t subs n)
          b
          (hop t c n)
          (neighbours t n)
          (neighbours_edge t n (hop t c n) hn ∙ hop_edge t c n hung hc hn (λ i. ne (sym i)))
          (away_behind c b n hc e j)
          (gathered_has f (λ d. eqb (hop t d n) (hop t c n)) at (suc (length t)) c (omega arith) (eq-eqb (hop t c n) (hop t c n) refl) o))

      from :
          among f (gathered (λ d. eqb (hop t d b) n) at (suc (length t))) ≡ true →
          among f (filters_of (subs n) ++ from_others (behind t subs n) b (neighbours t n)) ≡ true
      from h =
          let (c, l, j, o) = gathered_find f (λ d. eqb (hop t d b) n) at (suc (length t)) h in
          via c (omega arith) (eqb-true (hop t c b) n j) o (cases_eq c n)

  module _ (s : Network) (tables : Tables t s) (quiet : Quiet t s) where
    learned_announced : (b n : ℕ) → edge t b n ≡ true → s.learned b n ≡ s.announced n b
    unfolding replay Quiet
    learned_announced b n e =
        let w = edge_within t b n hung e in
        let q = quiet n b w.1 w.0 in
        let r = tables.replays n b (edge_sym t n b ∙ e) in
        rw q at r

    quiet_by_rank : (r b n : ℕ) → edge t b n ≡ true → rank t b n < r → s.learned b n ≡ maximal (behind t s.subscribers b n)
    unfolding to_announce
    quiet_by_rank zero b n e l = absurd (omega arith)
    quiet_by_rank (suc r) b n e l =
        let w = edge_within t b n hung e in
        let f = edge_sym t n b ∙ e in
        learned_announced b n e
        ∙ (tables.announces n b f
        ∙ (from_others_maximal
        (s.learned n)
        (behind t s.subscribers n)
        b
        (neighbours t n)
        (λ m i ne.
        let g : edge t n m ≡ true = sym (neighbours_edge t n m w.1) ∙ i in
        let k = rank_falls t b n m hung e g ne in
        quiet_by_rank r n m g (omega arith))
        (filters_of (s.subscribers n))
        ∙ maximal_same_members
        (filters_of (s.subscribers n) ++ from_others (behind t s.subscribers n) b (neighbours t n))
        (behind t s.subscribers b n)
        (behind_members s.subscribers b n e)))

    pub quiet_tables : (b n : ℕ) → edge t b n ≡ true → s.learned b n ≡ maximal (behind t s.subscribers b n)
    quiet_tables b n e = quiet_by_rank (suc (rank t b n)) b n e (omega arith)
