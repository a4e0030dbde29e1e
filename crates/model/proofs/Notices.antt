-- After every list of commands: a number that was not posted is nowhere, and ahead of every broker there is one copy of a notice at most.
use Rattle.std.proofs.Common.{◌≡◌, ℕ, suc, ◌+◌, ◌≤◌, Bool, true, false, cond, ◌&&◌, ◌||◌, eqb, List, [], ◌∷◌, ◌++◌, length, sym, refl, ap, ◌∙◌, arith}
use Rattle.std.proofs.lemmas.Bool.{eqb-true, or_parts}
use Rattle.filter.specs.Filter.{Notice, matches}
use Rattle.model.specs.Tree.{Tree, hangs, hop, has, edge, neighbours}
use Rattle.model.specs.Model.{Subscriber, Delivery, delivered, Message, notice, Network, tell, arrive, passed_on, with_subscribers, with_posted, taken, Command, step, end, empty}
use Rattle.model.specs.Promise.{times, copy, copies}
use Rattle.model.specs.Invariant.{ahead, one, load, Notices}
use Rattle.model.proofs.Sums.{total_zero}
use Rattle.model.proofs.Cases.{by_cases, kept_to_end}
use Rattle.model.proofs.Copies.{copies_append, copies_passed_on, tell_copies, tell_load, taken_ahead, arrived_has, noticed_load, posted_load, posted_others}

pub times_append : (k n : ℕ) (hs is : List Delivery) → times k n (hs ++ is) ≡ times k n hs + times k n is
unfolding times
times_append k n [] is = omega arith
times_append k n (h ∷ hs) is =
    let r = times_append k n hs is in
    grind arith

-- how many of these subscribers have the number and a filter that matches
unfoldable pub takers : ℕ → Notice → List Subscriber → ℕ
takers n e [] = 0
takers n e (r ∷ rs) = one (eqb r.number n && matches r.filter e) + takers n e rs

pub times_delivered : (k j n : ℕ) (e : Notice) (rs : List Subscriber) → times k n (delivered j e rs) ≡ cond (eqb j k) (takers n e rs) 0
unfolding times delivered takers
times_delivered k j n e [] = grind arith
times_delivered k j n e (r ∷ rs) =
    let i = times_delivered k j n e rs in
    grind arith

pub tell_notices : (t : Tree) (b : ℕ) (u : Network) → Notices t u → Notices t (tell t b u)
unfolding tell
tell_notices t b u h =
    record {
      unposted_copies = λ k p x n. tell_copies t b u k x n ∙ h.unposted_copies k p x n;
      unposted_arrived = h.unposted_arrived;
      unposted_delivered = h.unposted_delivered;
      one_ahead = λ k c hc. rw (tell_load t b u k c) (h.one_ahead k c hc);
    }

pub taken_copies :
    (s : Network) (a b : ℕ) (m : Message) (ms : List Message) (k : ℕ) → s.channel a b ≡ m ∷ ms → (x n : ℕ) →
    copies k ((taken s a b m ms).channel x n) ≤ copies k (s.channel x n)
unfolding copies
taken_copies s a b m ms k q x n = go (eqb x a) refl (eqb n b) refl
  where
    go : (v : Bool) → eqb x a ≡ v → (w : Bool) → eqb n b ≡ w → copies k (cond (v && w) ms (s.channel x n)) ≤ copies k (s.channel x n)
    go true i true j =
        let p : copies k (s.channel x n) ≡ copies k (m ∷ ms) = rw (eqb-true x a i, eqb-true n b j) (ap (copies k) q) in
        omega arith
    go true i false j = omega arith
    go false i w j = omega arith

pub arrive_copies :
    (t : Tree) (b m j : ℕ) (e : Notice) (u : Network) (k : ℕ) → eqb j k ≡ false → (x n : ℕ) →
    copies k ((arrive t b m j e u).channel x n) ≡ copies k (u.channel x n)
unfolding arrive
arrive_copies t b m j e u k ne x n = go (eqb x b && has (neighbours t b) n)
  where
    go : (v : Bool) → copies k (cond v (u.channel x n ++ passed_on m j e (u.learned b) n) (u.channel x n)) ≡ copies k (u.channel x n)
    go true =
        let a = copies_append k (u.channel x n) (passed_on m j e (u.learned b) n) in
        let p = copies_passed_on k m j e (u.learned b) n in
        grind arith
    go false = refl

pub arrive_arrived :
    (t : Tree) (b m j : ℕ) (e : Notice) (u : Network) (k c : ℕ) → has ((arrive t b m j e u).arrived c) k ≡ ((eqb b c && eqb j k) || has (u.arrived c) k)
unfolding arrive
arrive_arrived t b m j e u k c = arrived_has u.arrived b j c k

pub arrive_times :
    (t : Tree) (b m j : ℕ) (e : Notice) (u : Network) (k n : ℕ) →
    times k n (arrive t b m j e u).deliveries ≡ times k n u.deliveries + cond (eqb j k) (takers n e (u.subscribers b)) 0
unfolding arrive
arrive_times t b m j e u k n =
    times_append k n u.deliveries (delivered j e (u.subscribers b)) ∙ ap (λ x. times k n u.deliveries + x) (times_delivered k j n e (u.subscribers b))

pub subscribers_notices : (t : Tree) (b : ℕ) (s : Network) (rs : List Subscriber) → Notices t s → Notices t (with_subscribers s b rs)
unfolding load
subscribers_notices t b s rs h =
    record {
      unposted_copies = h.unposted_copies;
      unposted_arrived = h.unposted_arrived;
      unposted_delivered = h.unposted_delivered;
      one_ahead = h.one_ahead;
    }

-- a number that was not posted is on no channel and has arrived nowhere
pub unposted_load : (t : Tree) (s : Network) → Notices t s → (k : ℕ) → has s.posted k ≡ false → (c : ℕ) → load t s k c ≡ 0
unfolding load ahead
unposted_load t s h k p c =
    let z = total_zero (λ a. copies k (s.channel a (hop t c a))) (suc (length t)) (λ a l. h.unposted_copies k p a (hop t c a)) in
    let w = h.unposted_arrived k p c in
    grind arith

module _ (t : Tree) (hung : hangs t ≡ true) where
  pub taken_notices :
      (s : Network) (a b : ℕ) (m : Message) (ms : List Message) → a ≤ length t → s.channel a b ≡ m ∷ ms → Notices t s → Notices t (taken s a b m ms)
  unfolding load
  taken_notices s a b m ms ha q h =
      record {
        unposted_copies = λ k p x n. none k x n (h.unposted_copies k p x n);
        unposted_arrived = h.unposted_arrived;
        unposted_delivered = h.unposted_delivered;
        one_ahead = λ k c hc.
            let i = h.one_ahead k c hc in
            let j = taken_ahead t hung s a b m ms k c ha q in
            omega arith;
      }
    where
      none : (k x n : ℕ) → copies k (s.channel x n) ≡ 0 → copies k ((taken s a b m ms).channel x n) ≡ 0
      none k x n i =
          let j = taken_copies s a b m ms k q x n in
          omega arith

  posted_notices : (s : Network) (b j : ℕ) (e : Notice) → b ≤ length t → has s.posted j ≡ false → Notices t s → Notices t (arrive t b b j e (with_posted s j))
  unfolding has arrive
  posted_notices s b j e hb new h =
      record {
        unposted_copies = λ k p x n.
            let (i, o) = or_parts (eqb j k) (has s.posted k) p in
            arrive_copies t b b j e (with_posted s j) k i x n ∙ h.unposted_copies k o x n;
        unposted_arrived = λ k p c.
            let (i, o) = or_parts (eqb j k) (has s.posted k) p in
            let w = h.unposted_arrived k o c in
            let a = arrive_arrived t b b j e (with_posted s j) k c in
            grind arith;
        unposted_delivered = λ k p n.
            let (i, o) = or_parts (eqb j k) (has s.posted k) p in
            let w = h.unposted_delivered k o n in
            let a = arrive_times t b b j e (with_posted s j) k n in
            grind arith;
        one_ahead = λ k c hc. load_one k c hc (eqb j k) refl;
      }
    where
      load_one : (k c : ℕ) → c ≤ length t → (v : Bool) → eqb j k ≡ v → load t (arrive t b b j e (with_posted s j)) k c ≤ 1
      load_one k c hc true i =
          let z = unposted_load t s h j new c in
          let l = posted_load t hung s b j e c hb hc z in
          rw (← (eqb-true j k i)) (grind arith)
      load_one k c hc false i =
          let l = posted_others t hung s b j e k c hb hc i in
          let m = h.one_ahead k c hc in
          omega arith

  noticed_notices :
      (s : Network) (a b j : ℕ) (e : Notice) (ms : List Message) → a ≤ length t → edge t a b ≡ true → s.channel a b ≡ notice j e ∷ ms → Notices t s →
      Notices t (arrive t b a j e (taken s a b (notice j e) ms))
  unfolding arrive copies copy
  noticed_notices s a b j e ms ha f q h =
      let u = taken s a b (notice j e) ms in
      let r = taken_notices s a b (notice j e) ms ha q h in
      record {
        unposted_copies = λ k p x n. arrive_copies t b a j e u k (other k p) x n ∙ r.unposted_copies k p x n;
        unposted_arrived = λ k p c.
            let i = other k p in
            let w = h.unposted_arrived k p c in
            let o = arrive_arrived t b a j e u k c in
            grind arith;
        unposted_delivered = λ k p n.
            let i = other k p in
            let w = h.unposted_delivered k p n in
            let o = arrive_times t b a j e u k n in
            grind arith;
        one_ahead = λ k c hc.
            let l = noticed_load t hung s a b j e ms ha f q k c hc (h.one_ahead k c hc) in
            let m = h.one_ahead k c hc in
            omega arith;
      }
    where
      other : (k : ℕ) → has s.posted k ≡ false → eqb j k ≡ false
      other k p =
          let z : copies k (notice j e ∷ ms) ≡ 0 = ap (copies k) (sym q) ∙ h.unposted_copies k p a b in
          grind arith

  pub step_notices : (s : Network) (d : Command) → Notices t s → Notices t (step t s d)
  step_notices s d h =
      by_cases
      t
      s
      (λ c u. Notices t u)
      (record {
        refused = λ d r. h;
        idle = λ x y q. h;
        joined = λ b n f hb new. tell_notices t b _ (subscribers_notices t b s _ h);
        left = λ b n hb there. tell_notices t b _ (subscribers_notices t b s _ h);
        posted = λ b k e hb new. posted_notices s b k e hb new h;
        told = λ a b m ms ha e q tid. tell_notices t b _ (taken_notices s a b m ms ha q h);
        noticed = λ a b k n ms ha e q. noticed_notices s a b k n ms ha e q h;
      })
      d

  pub notices : (ds : List Command) → Notices t (end t empty ds)
  unfolding copies has times load ahead
  notices ds = kept_to_end t (Notices t) step_notices ds empty empty_notices
    where
      empty_notices : Notices t empty
      empty_notices =
          record {
            unposted_copies = λ k p x n. refl;
            unposted_arrived = λ k p b. refl;
            unposted_delivered = λ k p n. refl;
            one_ahead = λ k c hc.
                let z = total_zero (λ a. 0) (suc (length t)) (λ i l. refl) in
                omega arith;
          }
