-- A notice that is called for on the way to a subscriber who wants it is delivered exactly once; and what it does not want never.
use Rattle.std.proofs.Common.{◌≡◌, ℕ, suc, ◌+◌, ◌≤◌, Bool, true, false, cond, not, ◌&&◌, ◌||◌, eqb, ◌⊎◌, List, [], ◌∷◌, length, sym, refl, ap, ◌∙◌, inl, inr, arith}
use Rattle.std.proofs.lemmas.Bool.{ne_eqb, eqb-true, eqb-false, eq-eqb, cases_eq, and_parts, or_left, not-true, le-leb}
use Rattle.filter.specs.Filter.{Notice}
use Rattle.cover.specs.Maximal.{any_matches}
use Rattle.model.specs.Tree.{Tree, hangs, hop, has, edge}
use Rattle.model.specs.Model.{Subscriber, Message, add, cut, notice, Network, filters_of, tell, arrive, with_posted, taken, known, Command, post, allowed, effect, step, end, Quiet}
use Rattle.model.specs.Promise.{OnWay, here, HoldsAt, matching, CalledFor, times, wants, Throughout, copy, copies}
use Rattle.model.specs.Invariant.{ahead, one, load, holders, Owners, Right}
use Rattle.model.proofs.Tree.{has_apart, hop_one_way, hop_within, edge_within}
use Rattle.model.proofs.Throughout.{throughout_now, throughout_weaker}
use Rattle.model.proofs.Messages.{lasts_now}
use Rattle.model.proofs.Sums.{total_zero}
use Rattle.model.proofs.Cases.{by_cases, tidings}
use Rattle.model.proofs.Copies.{lost, noticed_load, posted_load, posted_others, tell_load, tell_copies, taken_ahead, arrive_elsewhere, arrive_here}
use Rattle.model.proofs.Notices.{takers, arrive_arrived, unposted_load, taken_copies, arrive_copies}
use Rattle.model.proofs.Owners.{takers_holders, at_most_one}
use Rattle.model.proofs.Right.{step_right, fresh_here, arrive_gain, more_just}
use Rattle.model.proofs.Alike.{alike, Alike, alike_head, step_alike, posted_alike, step_posted}
use Rattle.model.proofs.Known.{Way, matching_upward, step_holds}
use Rattle.model.proofs.Stays.{wants_matching, on_way}

pub wants_known : (n : ℕ) (e : Notice) (rs : List Subscriber) → wants n e rs ≡ true → known n rs ≡ true
unfolding wants known
wants_known n e [] h = h
wants_known n e (r ∷ rs) h =
    let i = wants_known n e rs in
    grind arith

-- where the number stands once, its subscriber wants the notice or not
pub takers_wants : (n : ℕ) (e : Notice) (rs : List Subscriber) → holders n rs ≤ 1 → takers n e rs ≡ one (wants n e rs)
unfolding wants takers holders
takers_wants n e [] h = refl
takers_wants n e (r ∷ rs) h =
    let i = takers_wants n e rs in
    let j = takers_holders n e rs in
    grind arith

not_lost : (x y z m : Bool) → (x ≡ true → y ≡ true → z ≡ false → m ≡ true) → (((x && y) && not z) && not m) ≡ false
not_lost true true true m h = refl
not_lost true true false m h = ap not (h refl refl refl)
not_lost true false z m h = refl
not_lost false y z m h = refl

copy_tidings : (k : ℕ) (m : Message) → tidings m ≡ true → copy k m ≡ 0
unfolding tidings copy
copy_tidings k (add f) h = refl
copy_tidings k (cut f) h = refl
copy_tidings k (notice j e) h = grind arith

module _ (t : Tree) (hung : hangs t ≡ true) (c : ℕ) (hc : c ≤ length t) (k : ℕ) (e : Notice) where
  -- the notice was delivered to subscriber n at c just if it has arrived there, if it is wanted
  step_just :
      (s : Network) → Right t s → Alike k e s.channel → has s.posted k ≡ true → (n T : ℕ) (want : Bool) → known n (s.subscribers c) ≡ true →
      wants n e (s.subscribers c) ≡ want → (d : Command) → times k n s.deliveries ≡ T + cond (has (s.arrived c) k) (one want) 0 →
      times k n (step t s d).deliveries ≡ T + cond (has ((step t s d).arrived c) k) (one want) 0
  unfolding tell Alike
  step_just s h al p n T want there w d l =
      by_cases
      t
      s
      (λ d u. times k n u.deliveries ≡ T + cond (has (u.arrived c) k) (one want) 0)
      (record {
        refused = λ d r. l;
        idle = λ x y q. l;
        joined = λ b m f hb new. l;
        left = λ b m hb there. l;
        posted = λ b j x hb new.
            arrives b b j x (with_posted s j) hb h.owners there w l
            (λ i q. absurd (has_apart s.posted j k p new q))
            (λ q. absurd (has_apart s.posted j k p new q));
        told = λ a b m ms ha f q tid. l;
        noticed = λ a b j x ms ha f q.
            arrives b a j x (taken s a b (notice j x) ms) (edge_within t a b hung f).1 h.owners there w l
            (λ i r. rw r at (fresh_here t hung s h a c j x ms ha (rw i at f) (rw i at q)))
            (alike_head k e j x ms (rw q at (al a b)));
      })
      d
    where
      arrives :
          (b m j : ℕ) (x : Notice) (u : Network) → b ≤ length t → Owners t u.subscribers → known n (u.subscribers c) ≡ true → wants n e (u.subscribers c) ≡ want →
          times k n u.deliveries ≡ T + cond (has (u.arrived c) k) (one want) 0 → (b ≡ c → j ≡ k → has (u.arrived c) k ≡ false) → (j ≡ k → x ≡ e) →
          times k n (arrive t b m j x u).deliveries ≡ T + cond (has ((arrive t b m j x u).arrived c) k) (one want) 0
      arrives b m j x u hb o th wa l new same =
          rw
          (arrive_arrived t b m j x u k c)
          (more_just
          t
          hung
          (times k n u.deliveries)
          (times k n (arrive t b m j x u).deliveries)
          T
          (takers n x (u.subscribers c))
          (one want)
          (eqb b c && eqb j k)
          (has (u.arrived c) k)
          (arrive_gain t hung b m j x u o k n c hb hc th)
          (λ v.
          let (y, z) = and_parts (eqb b c) (eqb j k) v in
          ap (λ a. takers n a (u.subscribers c)) (same (eqb-true j k z))
          ∙ (takers_wants n e (u.subscribers c) (at_most_one t u o n c hc) ∙ ap one wa))
          l
          (λ v.
          let (y, z) = and_parts (eqb b c) (eqb j k) v in
          new (eqb-true b c y) (eqb-true j k z)))

  -- the copies ahead of c are on channels from brokers of W
  unfoldable pub CopiesOn : (ℕ → Type 0) → (ℕ → ℕ → List Message) → Type 0
  CopiesOn W channel = (a : ℕ) → a ≤ length t → (copies k (channel a (hop t c a)) ≡ 0) ⊎ W a

  -- a broker where such a copy arrives, unless it is c, is one of W too
  carried :
      (W : ℕ → Type 0) → Way t c W → (s : Network) → CopiesOn W s.channel → (x y j : ℕ) (n : Notice) (ms : List Message) → x ≤ length t →
      s.channel x y ≡ notice j n ∷ ms → j ≡ k → hop t c x ≡ y → (y ≡ c → ⊥) → W y
  unfolding CopiesOn copies copy
  carried W way s on x y j n ms hx q jk i ne = go (on x hx)
    where
      go : (copies k (s.channel x (hop t c x)) ≡ 0) ⊎ W x → W y
      go (inl z) =
          let r : copies k (notice j n ∷ ms) ≡ 0 = ap (copies k) (sym q) ∙ (ap (λ a. copies k (s.channel x a)) (sym i) ∙ z) in
          let o = eq-eqb j k jk in
          absurd (let w : ◌≡◌ {A = ℕ} 0 1 = grind arith in omega arith)
      go (inr w) = rw i at (way.next x w (λ r. ne (sym i ∙ r)))

  step_copies_on :
      (W : ℕ → Type 0) → Way t c W → (s : Network) → has s.posted k ≡ true → CopiesOn W s.channel → (d : Command) → CopiesOn W (step t s d).channel
  unfolding CopiesOn copies copy
  step_copies_on W way s p on d =
      by_cases
      t
      s
      (λ d u. CopiesOn W u.channel)
      (record {
        refused = λ d r. on;
        idle = λ x y q. on;
        joined = λ b n f hb new. tells b _ on;
        left = λ b n hb there. tells b _ on;
        posted = λ b j x hb new a ha. other b b j x (with_posted s j) a ha (ne_eqb j k (has_apart s.posted j k p new)) (on a ha);
        told = λ x y m ms hx f q tid. tells y _ (takes x y m ms q);
        noticed = λ x y j n ms hx f q a ha. notices x y j n ms hx f q a ha (cases_eq a y);
      })
      d
    where
      none : (x y a : ℕ) → x ≤ y → (y ≡ 0) ⊎ W a → (x ≡ 0) ⊎ W a
      none x y a l (inl z) = inl (omega arith)
      none x y a l (inr w) = inr w

      tells : (b : ℕ) (u : Network) → CopiesOn W u.channel → CopiesOn W (tell t b u).channel
      tells b u o a ha =
          let i = tell_copies t b u k a (hop t c a) in
          none (copies k ((tell t b u).channel a (hop t c a))) (copies k (u.channel a (hop t c a))) a (omega arith) (o a ha)

      takes : (x y : ℕ) (m : Message) (ms : List Message) → s.channel x y ≡ m ∷ ms → CopiesOn W (taken s x y m ms).channel
      takes x y m ms q a ha =
          none
          (copies k ((taken s x y m ms).channel a (hop t c a)))
          (copies k (s.channel a (hop t c a)))
          a
          (taken_copies s x y m ms k q a (hop t c a))
          (on a ha)

      other :
          (b m j : ℕ) (x : Notice) (u : Network) (a : ℕ) → a ≤ length t → eqb j k ≡ false → (copies k (u.channel a (hop t c a)) ≡ 0) ⊎ W a →
          (copies k ((arrive t b m j x u).channel a (hop t c a)) ≡ 0) ⊎ W a
      other b m j x u a ha ne o =
          let i = arrive_copies t b m j x u k ne a (hop t c a) in
          none (copies k ((arrive t b m j x u).channel a (hop t c a))) (copies k (u.channel a (hop t c a))) a (omega arith) o

      notices :
          (x y j : ℕ) (n : Notice) (ms : List Message) → x ≤ length t → edge t x y ≡ true → s.channel x y ≡ notice j n ∷ ms → (a : ℕ) → a ≤ length t →
          (a ≡ y) ⊎ (a ≡ y → ⊥) → (copies k ((arrive t y x j n (taken s x y (notice j n) ms)).channel a (hop t c a)) ≡ 0) ⊎ W a
      notices x y j n ms hx f q a ha (inr ne) =
          let u = taken s x y (notice j n) ms in
          let i = arrive_elsewhere t hung y x j n u k a (hop t c a) ne in
          none (copies k ((arrive t y x j n u).channel a (hop t c a))) (copies k (u.channel a (hop t c a))) a (omega arith) (takes x y (notice j n) ms q a ha)
      notices x y j n ms hx f q a ha (inl i) =
          let u = taken s x y (notice j n) ms in
          let hy = (edge_within t x y hung f).1 in
          rw i (go (not (eqb y c) && (eqb j k && (not (eqb (hop t c y) x) && any_matches (u.learned y (hop t c y)) n))) refl)
        where
          go :
              (v : Bool) →
              (not (eqb y c) && (eqb j k && (not (eqb (hop t c y) x) && any_matches ((taken s x y (notice j n) ms).learned y (hop t c y)) n))) ≡ v →
              (copies k ((arrive t y x j n (taken s x y (notice j n) ms)).channel y (hop t c y)) ≡ 0) ⊎ W y
          go true g =
              let (yc, r) = and_parts (not (eqb y c)) (eqb j k && (not (eqb (hop t c y) x) && any_matches ((taken s x y (notice j n) ms).learned y (hop t c y)) n)) g in
              let (jk, r2) = and_parts (eqb j k) (not (eqb (hop t c y) x) && any_matches ((taken s x y (notice j n) ms).learned y (hop t c y)) n) r in
              let (yx, r3) = and_parts (not (eqb (hop t c y) x)) (any_matches ((taken s x y (notice j n) ms).learned y (hop t c y)) n) r2 in
              let o = hop_one_way t c x y hung hc f in
              inr (carried W way s on x y j n ms hx q (eqb-true j k jk) (eqb-true (hop t c x) y (o ∙ yx)) (eqb-false y c (not-true (eqb y c) yc)))
          go false g =
              let hy = (edge_within t x y hung f).1 in
              let u = taken s x y (notice j n) ms in
              let b = arrive_here t hung y x j n u k c hy hc ∙ ap (λ v. copies k (u.channel y (hop t c y)) + one v) g in
              none
              (copies k ((arrive t y x j n u).channel y (hop t c y)))
              (copies k (u.channel y (hop t c y)))
              y
              (omega arith)
              (takes x y (notice j n) ms q y hy)

  -- the notice has arrived at c or is on its way there
  step_load :
      (W : ℕ → Type 0) → Way t c W → (s : Network) → Right t s → has s.posted k ≡ true → Alike k e s.channel → CopiesOn W s.channel →
      ((a : ℕ) → W a → HoldsAt t s (matching e) c a) → load t s k c ≡ 1 → (d : Command) → load t (step t s d) k c ≡ 1
  unfolding load lost Alike CopiesOn copies copy
  step_load W way s h p al on holds l d =
      by_cases
      t
      s
      (λ d u. load t u k c ≡ 1)
      (record {
        refused = λ d r. l;
        idle = λ x y q. l;
        joined = λ b n f hb new. tell_load t b _ k c ∙ l;
        left = λ b n hb there. tell_load t b _ k c ∙ l;
        posted = λ b j x hb new. posted_others t hung s b j x k c hb hc (ne_eqb j k (has_apart s.posted j k p new)) ∙ l;
        told = λ x y m ms hx f q tid.
            tell_load t y (taken s x y m ms) k c
            ∙ (let g = taken_ahead t hung s x y m ms k c hx q in
            let z = copy_tidings k m tid in
            grind arith);
        noticed = λ x y j n ms hx f q.
            let g = noticed_load t hung s x y j n ms hx f q k c hc (h.notices.one_ahead k c hc) in
            let z : lost t s x y j n k c ≡ false = kept_up x y j n ms hx f q in
            grind arith;
      })
      d
    where
      kept_up :
          (x y j : ℕ) (n : Notice) (ms : List Message) → x ≤ length t → edge t x y ≡ true → s.channel x y ≡ notice j n ∷ ms → lost t s x y j n k c ≡ false
      kept_up x y j n ms hx f q =
          not_lost
          (eqb j k)
          (eqb (hop t c x) y)
          (eqb y c)
          (any_matches (s.learned y (hop t c y)) n)
          (λ jk i ne.
          let w = carried W way s on x y j n ms hx q (eqb-true j k jk) (eqb-true (hop t c x) y i) (eqb-false y c ne) in
          let r = lasts_now (matching e) (s.channel (hop t c y) y) (s.learned y (hop t c y)) (holds y w) in
          let a = alike_head k e j n ms (ap (alike k e) (sym q) ∙ al x y) (eqb-true j k jk) in
          ap (any_matches (s.learned y (hop t c y))) a ∙ r)

  pub end_just :
      (n T : ℕ) (want : Bool) (ds : List Command) (s : Network) → Right t s → has s.posted k ≡ true → Alike k e s.channel →
      Throughout (λ u. (known n (u.subscribers c) ≡ true) × (wants n e (u.subscribers c) ≡ want)) t s ds →
      times k n s.deliveries ≡ T + cond (has (s.arrived c) k) (one want) 0 →
      times k n (end t s ds).deliveries ≡ T + cond (has ((end t s ds).arrived c) k) (one want) 0
  unfolding end Throughout
  end_just n T want [] s h p al thr l = l
  end_just n T want (d ∷ ds) s h p al thr l =
      end_just
      n
      T
      want
      ds
      (step t s d)
      (step_right t hung s d h)
      (step_posted t k e s d p)
      (step_alike t k e s d p al)
      thr.1
      (step_just s h al p n T want thr.0.0 thr.0.1 d l)

  pub end_load :
      (W : ℕ → Type 0) → Way t c W → (ds : List Command) (s : Network) → Right t s → has s.posted k ≡ true → Alike k e s.channel → CopiesOn W s.channel →
      ((a : ℕ) → W a → HoldsAt t s (matching e) c a) → Throughout (λ u. any_matches (filters_of (u.subscribers c)) e ≡ true) t s ds → load t s k c ≡ 1 →
      load t (end t s ds) k c ≡ 1
  unfolding end Throughout
  end_load W way [] s h p al on holds thr l = l
  end_load W way (d ∷ ds) s h p al on holds thr l =
      end_load
      W
      way
      ds
      (step t s d)
      (step_right t hung s d h)
      (step_posted t k e s d p)
      (step_alike t k e s d p al)
      (step_copies_on W way s p on d)
      (step_holds t hung (matching e) (matching_upward e) c hc W way s h.tables holds d
      (throughout_now (λ u. any_matches (filters_of (u.subscribers c)) e ≡ true) t (step t s d) ds thr.1))
      thr.1
      (step_load W way s h p al on holds l d)

  -- when nothing is under way what was on its way has arrived
  pub quiet_arrived : (s : Network) → Quiet t s → load t s k c ≡ 1 → has (s.arrived c) k ≡ true
  unfolding load ahead Quiet copies
  quiet_arrived s quiet l =
      let z =
      total_zero
      (λ a. copies k (s.channel a (hop t c a)))
      (suc (length t))
      (λ a i. ap (copies k) (quiet a (hop t c a) (omega arith) (hop_within t c a hung hc (omega arith)))) in
      grind arith

  module _ (b : ℕ) (hb : b ≤ length t) (s : Network) (h : Right t s) (new : has s.posted k ≡ false) where
    pub step_post : step t s (post b k e) ≡ arrive t b b k e (with_posted s k)
    unfolding step allowed effect
    step_post = rw (le-leb b (length t) hb, new)

    posted_has : has (arrive t b b k e (with_posted s k)).posted k ≡ true
    unfolding arrive has
    posted_has = or_left (eqb k k) (has s.posted k) (eq-eqb k k refl)

    posted_just :
        (n : ℕ) (want : Bool) → known n (s.subscribers c) ≡ true → wants n e (s.subscribers c) ≡ want →
        times k n (arrive t b b k e (with_posted s k)).deliveries
        ≡ times k n s.deliveries + cond (has ((arrive t b b k e (with_posted s k)).arrived c) k) (one want) 0
    posted_just n want there w =
        let u = with_posted s k in
        let gone = h.notices.unposted_arrived k new c in
        rw
        (arrive_arrived t b b k e u k c)
        (more_just
        t
        hung
        (times k n s.deliveries)
        (times k n (arrive t b b k e u).deliveries)
        (times k n s.deliveries)
        (takers n e (s.subscribers c))
        (one want)
        (eqb b c && eqb k k)
        (has (s.arrived c) k)
        (arrive_gain t hung b b k e u h.owners k n c hb hc there)
        (λ v. takers_wants n e (s.subscribers c) (at_most_one t s h.owners n c hc) ∙ ap one w)
        (grind arith)
        (λ v. gone))

    posted_copies_on : CopiesOn (OnWay t c b) (arrive t b b k e (with_posted s k)).channel
    unfolding CopiesOn
    posted_copies_on a ha = go (cases_eq a b) (cases_eq b c)
      where
        u : Network
        u = with_posted s k

        go : (a ≡ b) ⊎ (a ≡ b → ⊥) → (b ≡ c) ⊎ (b ≡ c → ⊥) → (copies k ((arrive t b b k e u).channel a (hop t c a)) ≡ 0) ⊎ OnWay t c b a
        go (inr ne) i = inl (arrive_elsewhere t hung b b k e u k a (hop t c a) ne ∙ h.notices.unposted_copies k new a (hop t c a))
        go (inl i) (inr ne) = inr (rw i (here ne))
        go (inl i) (inl j) =
            let z = h.notices.unposted_copies k new b (hop t c b) in
            let r = arrive_here t hung b b k e u k c hb hc in
            let y = eq-eqb b c j in
            inl (rw i (grind arith))

    posted_ahead : CalledFor t s c e b → load t (arrive t b b k e (with_posted s k)) k c ≡ 1
    unfolding CalledFor
    posted_ahead called =
        posted_load t hung s b k e c hb hc (unposted_load t s h.notices k new c) ∙ ap one (go (eqb b c) refl)
      where
        go : (v : Bool) → eqb b c ≡ v → (v || any_matches (s.learned b (hop t c b)) e) ≡ true
        go true i = refl
        go false i =
            lasts_now (matching e) (s.channel (hop t c b) b) (s.learned b (hop t c b)) (called b (here (eqb-false b c i)))

    -- from the posting on: delivered just if arrived
    pub after_post_just :
        (n : ℕ) (want : Bool) (ds : List Command) →
        Throughout (λ u. (known n (u.subscribers c) ≡ true) × (wants n e (u.subscribers c) ≡ want)) t s (post b k e ∷ ds) →
        times k n (end t s (post b k e ∷ ds)).deliveries ≡ cond (has ((end t s (post b k e ∷ ds)).arrived c) k) (one want) 0
    unfolding end Throughout
    after_post_just n want ds thr =
        let p : has (step t s (post b k e)).posted k ≡ true = rw step_post posted_has in
        let al : Alike k e (step t s (post b k e)).channel = rw step_post (posted_alike t k e s b h.notices new) in
        let j = posted_just n want thr.0.0 thr.0.1 in
        let z = h.notices.unposted_delivered k new n in
        let r =
        end_just n (times k n s.deliveries) want ds (step t s (post b k e)) (step_right t hung s (post b k e) h) p al thr.1 (rw step_post j) in
        r ∙ (rw z (omega arith))

    -- .. and it arrives, if it is called for
    pub after_post_load :
        (ds : List Command) → CalledFor t s c e b → Throughout (λ u. any_matches (filters_of (u.subscribers c)) e ≡ true) t s (post b k e ∷ ds) →
        load t (end t s (post b k e ∷ ds)) k c ≡ 1
    unfolding end Throughout CalledFor
    after_post_load ds called thr =
        let p : has (step t s (post b k e)).posted k ≡ true = rw step_post posted_has in
        let al : Alike k e (step t s (post b k e)).channel = rw step_post (posted_alike t k e s b h.notices new) in
        let on : CopiesOn (OnWay t c b) (step t s (post b k e)).channel = rw step_post posted_copies_on in
        let l : load t (step t s (post b k e)) k c ≡ 1 = rw step_post (posted_ahead called) in
        end_load
        (OnWay t c b)
        (on_way t hung c hc b hb)
        ds
        (step t s (post b k e))
        (step_right t hung s (post b k e) h)
        p
        al
        on
        (step_holds t hung (matching e) (matching_upward e) c hc (OnWay t c b) (on_way t hung c hc b hb) s h.tables called (post b k e)
        (throughout_now (λ u. any_matches (filters_of (u.subscribers c)) e ≡ true) t (step t s (post b k e)) ds thr.1))
        thr.1
        l

    -- EXACTLY ONCE BY THE NOTICE: called for on the way to a subscriber who is there and wants it at every moment until all is quiet
    pub once_by_notice :
        (n : ℕ) (ds : List Command) → CalledFor t s c e b → Throughout (λ u. wants n e (u.subscribers c) ≡ true) t s (post b k e ∷ ds) →
        Quiet t (end t s (post b k e ∷ ds)) → times k n (end t s (post b k e ∷ ds)).deliveries ≡ 1
    once_by_notice n ds called thr quiet =
        let m =
        throughout_weaker
        (λ u. wants n e (u.subscribers c) ≡ true)
        (λ u. any_matches (filters_of (u.subscribers c)) e ≡ true)
        (λ u w. wants_matching n e (u.subscribers c) w)
        t
        s
        (post b k e ∷ ds)
        thr in
        let w =
        throughout_weaker
        (λ u. wants n e (u.subscribers c) ≡ true)
        (λ u. (known n (u.subscribers c) ≡ true) × (wants n e (u.subscribers c) ≡ true))
        (λ u w. (wants_known n e (u.subscribers c) w, w))
        t
        s
        (post b k e ∷ ds)
        thr in
        let a = quiet_arrived (end t s (post b k e ∷ ds)) quiet (after_post_load ds called m) in
        after_post_just n true ds w ∙ rw a
