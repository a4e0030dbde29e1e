-- All that holds after every list of commands, in one record; and what the arrival of a notice adds to the deliveries of one subscriber.
use Rattle.std.proofs.Common.{◌≡◌, ℕ, ◌+◌, ◌≤◌, Bool, true, false, cond, ◌&&◌, ◌||◌, eqb, List, ◌∷◌, length, sym, refl, ap, ◌∙◌, arith}
use Rattle.std.proofs.lemmas.Bool.{ne_eqb, eqb-true, eqb-false, eq-eqb, and_parts}
use Rattle.filter.specs.Filter.{Notice}
use Rattle.model.specs.Tree.{Tree, hangs, hop, has, edge}
use Rattle.model.specs.Model.{Message, notice, Network, tell, arrive, with_posted, taken, known, Command, step, end, empty}
use Rattle.model.specs.Promise.{times, copy}
use Rattle.model.specs.Invariant.{one, load, Owners, Right}
use Rattle.model.proofs.Tree.{hop_self, hop_one_way, edge_within, edge_apart}
use Rattle.model.proofs.Cases.{by_cases, kept_to_end}
use Rattle.model.proofs.Tables.{step_tables, tables}
use Rattle.model.proofs.Copies.{taken_ahead}
use Rattle.model.proofs.Notices.{step_notices, notices, takers, arrive_times, arrive_arrived}
use Rattle.model.proofs.Owners.{step_owners, owners, no_other, at_most_one, takers_holders}

pub step_right : (t : Tree) → hangs t ≡ true → (s : Network) (d : Command) → Right t s → Right t (step t s d)
step_right t hung s d h =
    record {
      tables = step_tables t hung s d h.tables;
      notices = step_notices t hung s d h.notices;
      owners = step_owners t s d h.owners;
    }

pub right : (t : Tree) → hangs t ≡ true → (ds : List Command) → Right t (end t empty ds)
right t hung ds = record { tables = tables t hung ds; notices = notices t hung ds; owners = owners t ds }

pub end_right : (t : Tree) → hangs t ≡ true → (ds : List Command) (s : Network) → Right t s → Right t (end t s ds)
end_right t hung ds s h = kept_to_end t (Right t) (step_right t hung) ds s h

module _ (t : Tree) (hung : hangs t ≡ true) where
  -- a notice that arrives at c has not arrived there before
  pub fresh_here :
      (s : Network) → Right t s → (a c j : ℕ) (e : Notice) (ms : List Message) → a ≤ length t → edge t a c ≡ true → s.channel a c ≡ notice j e ∷ ms →
      has (s.arrived c) j ≡ false
  unfolding load copy
  fresh_here s h a c j e ms ha f q =
      let hc = (edge_within t a c hung f).1 in
      let p = taken_ahead t hung s a c (notice j e) ms j c ha q in
      let l = h.notices.one_ahead j c hc in
      let o = hop_one_way t c a c hung hc f in
      let i = hop_self t c in
      let y = eq-eqb j j refl in
      let g = ne_eqb (hop t c c) a (λ x. edge_apart t hung a c f (sym x ∙ hop_self t c)) in
      grind arith

  -- an arriving notice is delivered to a subscriber at c just if it arrives at c
  pub arrive_gain :
      (b m j : ℕ) (e : Notice) (u : Network) → Owners t u.subscribers → (k n c : ℕ) → b ≤ length t → c ≤ length t → known n (u.subscribers c) ≡ true →
      times k n (arrive t b m j e u).deliveries ≡ times k n u.deliveries + cond (eqb b c && eqb j k) (takers n e (u.subscribers c)) 0
  arrive_gain b m j e u h k n c hb hc there =
      arrive_times t b m j e u k n ∙ ap (λ x. times k n u.deliveries + x) (go (eqb b c) refl)
    where
      go : (v : Bool) → eqb b c ≡ v → cond (eqb j k) (takers n e (u.subscribers b)) 0 ≡ cond (v && eqb j k) (takers n e (u.subscribers c)) 0
      go true q = rw (eqb-true b c q)
      go false q =
          let z = no_other t u h n b c hb hc (eqb-false b c q) there in
          let l = takers_holders n e (u.subscribers b) in
          grind arith

  more_at_most :
      (old new T gain : ℕ) (v h : Bool) → new ≡ old + cond v gain 0 → gain ≤ 1 → old ≤ T + one h → (v ≡ true → h ≡ false) → new ≤ T + one (v || h)
  more_at_most old new T gain v h p g l i = grind arith

  pub more_just :
      (old new T gain G : ℕ) (v h : Bool) → new ≡ old + cond v gain 0 → (v ≡ true → gain ≡ G) → old ≡ T + cond h G 0 → (v ≡ true → h ≡ false) →
      new ≡ T + cond (v || h) G 0
  more_just old new T gain G v h p g l i = grind arith

  -- while a subscriber stays, a notice is delivered to it no more often than it arrives at its broker
  pub step_at_most :
      (s : Network) → Right t s → (T k n c : ℕ) → c ≤ length t → known n (s.subscribers c) ≡ true → (d : Command) →
      times k n s.deliveries ≤ T + one (has (s.arrived c) k) → times k n (step t s d).deliveries ≤ T + one (has ((step t s d).arrived c) k)
  unfolding tell
  step_at_most s h T k n c hc there d l =
      by_cases
      t
      s
      (λ d u. times k n u.deliveries ≤ T + one (has (u.arrived c) k))
      (record {
        refused = λ d r. l;
        idle = λ x y q. l;
        joined = λ b m f hb new. l;
        left = λ b m hb known. l;
        posted = λ b j e hb new. arrives b b j e (with_posted s j) hb h.owners there l (λ i p. rw p at (h.notices.unposted_arrived j new c));
        told = λ a b m ms ha e q tid. l;
        noticed = λ a b j e ms ha f q.
            arrives b a j e (taken s a b (notice j e) ms) (edge_within t a b hung f).1 h.owners there l
            (λ i p. rw p at (fresh_here s h a c j e ms ha (rw i at f) (rw i at q)));
      })
      d
    where
      arrives :
          (b m j : ℕ) (e : Notice) (u : Network) → b ≤ length t → Owners t u.subscribers → known n (u.subscribers c) ≡ true →
          times k n u.deliveries ≤ T + one (has (u.arrived c) k) → (b ≡ c → j ≡ k → has (u.arrived c) k ≡ false) →
          times k n (arrive t b m j e u).deliveries ≤ T + one (has ((arrive t b m j e u).arrived c) k)
      arrives b m j e u hb o th l new =
          rw
          (arrive_arrived t b m j e u k c)
          (more_at_most
          (times k n u.deliveries)
          (times k n (arrive t b m j e u).deliveries)
          T
          (takers n e (u.subscribers c))
          (eqb b c && eqb j k)
          (has (u.arrived c) k)
          (arrive_gain b m j e u o k n c hb hc th)
          (let x = takers_holders n e (u.subscribers c) in
          let y = at_most_one t u o n c hc in
          omega arith)
          l
          (λ v.
          let (p, q) = and_parts (eqb b c) (eqb j k) v in
          new (eqb-true b c p) (eqb-true j k q)))
