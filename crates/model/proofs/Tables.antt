-- In every network that commands lead to: what is announced is what is to announce, what was learned lags behind it by the messages under way, and
-- only brokers beside each other have messages under way.
use Rattle.std.proofs.Common.{◌≡◌, ℕ, ◌≤◌, Bool, true, false, cond, not, ◌&&◌, eqb, List, [], ◌∷◌, ◌++◌, length, sym, refl, ap, ◌∙◌, arith}
use mathlib.Core.Path.{fun_ext}
use Rattle.std.proofs.lemmas.Bool.Decides.{nat_tests}
use Rattle.std.proofs.lemmas.Bool.{and_parts, eqb-true, eq-eqb, ne_eqb}
use Rattle.filter.specs.Filter.{Filter, Notice}
use Rattle.cover.specs.Maximal.{ordered, uncovered, maximal, any_matches}
use Rattle.cover.specs.Sorted.{sorted}
use Rattle.cover.proofs.Order.{sorted_maximal}
use Rattle.model.specs.Tree.{Tree, hangs, has, edge, neighbours}
use Rattle.model.specs.Model.{Subscriber, Message, notice, after, Network, at2, filters_of, from_others, to_announce, announcement, batch, tell, arrive, passed_on, with_subscribers, with_posted, taken, Command, step, end, empty}
use Rattle.model.specs.Promise.{replay}
use Rattle.model.specs.Invariant.{Tables}
use Rattle.model.proofs.Tree.{neighbours_edge, edge_within}
use Rattle.model.proofs.Messages.{replay_append, replay_batch, after_sorted}
use Rattle.model.proofs.Cases.{by_cases, kept_to_end}

-- all but that the announcements of broker b are up to date
pub record TablesBut (t : Tree) (b : ℕ) (s : Network) : Type 0 where
  pub only_beside : (x n : ℕ) → edge t x n ≡ false → s.channel x n ≡ []
  pub replays : (x n : ℕ) → edge t x n ≡ true → replay (s.channel x n) (s.learned n x) ≡ s.announced x n
  pub learned_sorted : (x n : ℕ) → sorted (s.learned x n) ≡ true
  pub announced_sorted : (x n : ℕ) → sorted (s.announced x n) ≡ true
  pub announces : (x n : ℕ) → edge t x n ≡ true → (x ≡ b → ⊥) → s.announced x n ≡ announcement t s x n

-- to whom broker b tells
pub told_to : (t : Tree) (b x n : ℕ) → b ≤ length t → (eqb x b && has (neighbours t b) n) ≡ (eqb x b && edge t x n)
told_to t b x n h = go (eqb x b) refl
  where
    go : (v : Bool) → eqb x b ≡ v → (v && has (neighbours t b) n) ≡ (v && edge t x n)
    go true q = neighbours_edge t b n h ∙ ap (λ y. edge t y n) (sym (eqb-true x b q))
    go false q = refl

pub to_announce_sorted : (t : Tree) (s : Network) (b n : ℕ) → sorted (announcement t s b n) ≡ true
unfolding to_announce
to_announce_sorted t s b n = sorted_maximal _

replay_passed_on : (m k : ℕ) (e : Notice) (table : ℕ → List Filter) (n : ℕ) (fs : List Filter) → replay (passed_on m k e table n) fs ≡ fs
unfolding passed_on replay after
replay_passed_on m k e table n fs = go (not (eqb n m) && any_matches (table n) e)
  where
    go : (v : Bool) → replay (cond v (notice k e ∷ []) []) fs ≡ fs
    go true = refl
    go false = refl

pub tell_tables : (t : Tree) (b : ℕ) (u : Network) → b ≤ length t → TablesBut t b u → Tables t (tell t b u)
unfolding tell
tell_tables t b u hb h =
    record {
      only_beside = λ x n e. only x n e (eqb x b && has (neighbours t b) n) refl;
      replays = λ x n e. replays x n e (eqb x b && has (neighbours t b) n) refl;
      learned_sorted = h.learned_sorted;
      announced_sorted = λ x n. order x n (eqb x b && has (neighbours t b) n);
      announces = λ x n e. announces x n e (eqb x b && has (neighbours t b) n) refl;
    }
  where
    only :
        (x n : ℕ) → edge t x n ≡ false → (v : Bool) → (eqb x b && has (neighbours t b) n) ≡ v →
        cond v (u.channel x n ++ batch (u.announced b n) (announcement t u b n)) (u.channel x n) ≡ []
    only x n e true q =
        let w = told_to t b x n hb in
        grind (arith, nat_tests)
    only x n e false q = h.only_beside x n e

    replays :
        (x n : ℕ) → edge t x n ≡ true → (v : Bool) → (eqb x b && has (neighbours t b) n) ≡ v →
        replay (cond v (u.channel x n ++ batch (u.announced b n) (announcement t u b n)) (u.channel x n)) (u.learned n x)
        ≡ cond v (announcement t u x n) (u.announced x n)
    replays x n e true q =
        let i = eqb-true x b (and_parts (eqb x b) (has (neighbours t b) n) q).0 in
        let r = h.replays x n e in
        rw
        (← i, replay_append (u.channel x n) (batch (u.announced x n) (announcement t u x n)) (u.learned n x), r)
        (replay_batch (u.announced x n) (announcement t u x n) (h.announced_sorted x n) (to_announce_sorted t u x n))
    replays x n e false q = h.replays x n e

    order : (x n : ℕ) (v : Bool) → sorted (cond v (announcement t u x n) (u.announced x n)) ≡ true
    order x n true = to_announce_sorted t u x n
    order x n false = h.announced_sorted x n

    announces :
        (x n : ℕ) → edge t x n ≡ true → (v : Bool) → (eqb x b && has (neighbours t b) n) ≡ v →
        cond v (announcement t u x n) (u.announced x n) ≡ announcement t u x n
    announces x n e true q = refl
    announces x n e false q =
        let w = told_to t b x n hb in
        h.announces x n e (λ i. let j = eq-eqb x b i in grind (arith, nat_tests))

pub arrive_tables : (t : Tree) (b m k : ℕ) (e : Notice) (u : Network) → b ≤ length t → Tables t u → Tables t (arrive t b m k e u)
unfolding arrive
arrive_tables t b m k e u hb h =
    record {
      only_beside = λ x n f. only x n f (eqb x b && has (neighbours t b) n) refl;
      replays = λ x n f. replays x n f (eqb x b && has (neighbours t b) n);
      learned_sorted = h.learned_sorted;
      announced_sorted = h.announced_sorted;
      announces = h.announces;
    }
  where
    only :
        (x n : ℕ) → edge t x n ≡ false → (v : Bool) → (eqb x b && has (neighbours t b) n) ≡ v →
        cond v (u.channel x n ++ passed_on m k e (u.learned b) n) (u.channel x n) ≡ []
    only x n f true q =
        let w = told_to t b x n hb in
        grind (arith, nat_tests)
    only x n f false q = h.only_beside x n f

    replays :
        (x n : ℕ) → edge t x n ≡ true → (v : Bool) →
        replay (cond v (u.channel x n ++ passed_on m k e (u.learned b) n) (u.channel x n)) (u.learned n x) ≡ u.announced x n
    replays x n f true =
        replay_append (u.channel x n) (passed_on m k e (u.learned b) n) (u.learned n x)
        ∙ (replay_passed_on m k e (u.learned b) n (replay (u.channel x n) (u.learned n x)) ∙ h.replays x n f)
    replays x n f false = h.replays x n f

-- a subscriber more or less at b
pub subscribers_tables : (t : Tree) (b : ℕ) (s : Network) (rs : List Subscriber) → Tables t s → TablesBut t b (with_subscribers s b rs)
subscribers_tables t b s rs h =
    record {
      only_beside = h.only_beside;
      replays = h.replays;
      learned_sorted = h.learned_sorted;
      announced_sorted = h.announced_sorted;
      announces = λ x n e ne. rw (ne_eqb x b ne) (h.announces x n e);
    }

-- a message from a to b is taken
module _ (t : Tree) (s : Network) (a b : ℕ) (m : Message) (ms : List Message) (e : edge t a b ≡ true) (q : s.channel a b ≡ m ∷ ms) (h : Tables t s) where
  taken_only : (x n : ℕ) → edge t x n ≡ false → (taken s a b m ms).channel x n ≡ []
  taken_only x n f = go (eqb x a) refl (eqb n b) refl
    where
      go : (v : Bool) → eqb x a ≡ v → (w : Bool) → eqb n b ≡ w → cond (v && w) ms (s.channel x n) ≡ []
      go true i true j =
          let p = eqb-true x a i in
          let r = eqb-true n b j in
          let z : true ≡ false = sym e ∙ (ap (λ y. edge t y b) (sym p) ∙ (ap (λ y. edge t x y) (sym r) ∙ f)) in
          grind arith
      go true i false j = h.only_beside x n f
      go false i w j = h.only_beside x n f

  taken_replays : (x n : ℕ) → edge t x n ≡ true → replay ((taken s a b m ms).channel x n) ((taken s a b m ms).learned n x) ≡ s.announced x n
  unfolding replay
  taken_replays x n f = go (eqb x a) refl (eqb n b) refl
    where
      go :
          (v : Bool) → eqb x a ≡ v → (w : Bool) → eqb n b ≡ w →
          replay (cond (v && w) ms (s.channel x n)) (cond (w && v) (after m (s.learned b a)) (s.learned n x)) ≡ s.announced x n
      go true i true j =
          let r : replay (m ∷ ms) (s.learned b a) ≡ s.announced a b = rw q at (h.replays a b e) in
          rw (eqb-true x a i, eqb-true n b j) r
      go true i false j = h.replays x n f
      go false i true j = h.replays x n f
      go false i false j = h.replays x n f

  taken_sorted : (x n : ℕ) → sorted ((taken s a b m ms).learned x n) ≡ true
  taken_sorted x n = go (eqb x b && eqb n a)
    where
      go : (v : Bool) → sorted (cond v (after m (s.learned b a)) (s.learned x n)) ≡ true
      go true = after_sorted m (s.learned b a) (h.learned_sorted b a)
      go false = h.learned_sorted x n

  pub taken_tables : TablesBut t b (taken s a b m ms)
  taken_tables =
      record {
        only_beside = taken_only;
        replays = taken_replays;
        learned_sorted = taken_sorted;
        announced_sorted = h.announced_sorted;
        announces = λ x n f ne. elsewhere x n f (eqb x b) (ne_eqb x b ne);
      }
    where
      elsewhere :
          (x n : ℕ) → edge t x n ≡ true → (v : Bool) → v ≡ false →
          s.announced x n ≡ to_announce (s.subscribers x) (λ l. cond (v && eqb l a) (after m (s.learned b a)) (s.learned x l)) (neighbours t x) n
      elsewhere x n f true z = grind arith
      elsewhere x n f false z = h.announces x n f

at2_same : {A : Type 0} (f : ℕ → ℕ → A) (i j k l : ℕ) → at2 f i j (f i j) k l ≡ f k l
at2_same f i j k l = go (eqb k i) refl (eqb l j) refl
  where
    go : (v : Bool) → eqb k i ≡ v → (w : Bool) → eqb l j ≡ w → cond (v && w) (f i j) (f k l) ≡ f k l
    go true p true q = rw (eqb-true k i p, eqb-true l j q)
    go true p false q = refl
    go false p w q = refl

-- taking a notice changes no table
pub taken_notice_learned : (s : Network) (a b k : ℕ) (n : Notice) (ms : List Message) → (taken s a b (notice k n) ms).learned ≡ s.learned
unfolding after
taken_notice_learned s a b k n ms = fun_ext (λ x. fun_ext (λ l. at2_same s.learned b a x l))

pub taken_notice_tables :
    (t : Tree) (s : Network) (a b k : ℕ) (n : Notice) (ms : List Message) → edge t a b ≡ true → s.channel a b ≡ notice k n ∷ ms → Tables t s →
    Tables t (taken s a b (notice k n) ms)
unfolding after
taken_notice_tables t s a b k n ms e q h =
    let r = taken_tables t s a b (notice k n) ms e q h in
    record {
      only_beside = r.only_beside;
      replays = r.replays;
      learned_sorted = r.learned_sorted;
      announced_sorted = r.announced_sorted;
      announces = λ x l f. h.announces x l f ∙ ap (λ w. to_announce (s.subscribers x) (w x) (neighbours t x) l) (sym (taken_notice_learned s a b k n ms));
    }

from_none : (n : ℕ) (ns : List ℕ) → from_others (λ m. []) n ns ≡ []
unfolding from_others
from_none n [] = refl
from_none n (m ∷ ns) = go (eqb m n) (from_none n ns)
  where
    go : (v : Bool) → from_others (λ m. []) n ns ≡ [] → cond v (from_others (λ m. []) n ns) (from_others (λ m. []) n ns) ≡ []
    go true r = r
    go false r = r

pub empty_tables : (t : Tree) → Tables t empty
unfolding replay sorted to_announce filters_of maximal ordered uncovered
empty_tables t =
    record {
      only_beside = λ x n e. refl;
      replays = λ x n e. refl;
      learned_sorted = λ x n. refl;
      announced_sorted = λ x n. refl;
      announces = λ x n e. sym (ap maximal (from_none n (neighbours t x)));
    }

module _ (t : Tree) (hung : hangs t ≡ true) where
  pub step_tables : (s : Network) (d : Command) → Tables t s → Tables t (step t s d)
  step_tables s d h =
      by_cases
      t
      s
      (λ c u. Tables t u)
      (record {
        refused = λ d r. h;
        idle = λ x y q. h;
        joined = λ b n f hb new. tell_tables t b _ hb (subscribers_tables t b s _ h);
        left = λ b n hb there. tell_tables t b _ hb (subscribers_tables t b s _ h);
        posted = λ b k e hb new. arrive_tables t b b k e (with_posted s k) hb (record { only_beside = h.only_beside; replays = h.replays; learned_sorted = h.learned_sorted; announced_sorted = h.announced_sorted; announces = h.announces });
        told = λ a b m ms ha e q tid. tell_tables t b _ (edge_within t a b hung e).1 (taken_tables t s a b m ms e q h);
        noticed = λ a b k n ms ha e q. arrive_tables t b a k n _ (edge_within t a b hung e).1 (taken_notice_tables t s a b k n ms e q h);
      })
      d

  pub tables : (ds : List Command) → Tables t (end t empty ds)
  tables ds = kept_to_end t (Tables t) step_tables ds empty (empty_tables t)
