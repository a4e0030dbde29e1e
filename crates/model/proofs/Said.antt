-- What is under way and what is delivered under a number is the notice that was posted with it.
use Rattle.std.proofs.Common.{◌≡◌, ℕ, ◌+◌, ◌<◌, ◌≤◌, Bool, true, false, cond, not, ◌&&◌, ◌||◌, eqb, leb, List, [], ◌∷◌, ◌++◌, length, sym, refl, ap, ◌∙◌, append_assoc, append-nil, arith}
use Rattle.std.proofs.lemmas.Bool.{eqb-true, eq-eqb, le-leb, and_parts, both_ways}
use Rattle.filter.specs.Filter.{Filter, Notice, matches, same}
use Rattle.filter.proofs.Laws.{same_refl}
use Rattle.model.specs.Tree.{Tree, hangs, has}
use Rattle.model.specs.Model.{Subscriber, Message, notice, Network, Delivery, delivered, tell, arrive, with_posted, Command, join, leave, post, carry, allowed, step, end, empty}
use Rattle.model.specs.Promise.{notice_of, times, subscribed, copies, copy}
use Rattle.model.specs.Invariant.{one, Right}
use Rattle.model.proofs.Tree.{edge_within}
use Rattle.model.proofs.Cases.{by_cases}
use Rattle.model.proofs.Notices.{takers, times_delivered}
use Rattle.model.proofs.Alike.{alike, Alike, alike_head, step_alike, posted_alike}
use Rattle.model.proofs.Right.{step_right, right}

-- some command posts a notice with the number at a broker that is there
unfoldable pub posted_in : Tree → ℕ → List Command → Bool
posted_in t k [] = false
posted_in t k (join b n f ∷ ds) = posted_in t k ds
posted_in t k (leave b n ∷ ds) = posted_in t k ds
posted_in t k (post b j e ∷ ds) = (leb b (length t) && eqb j k) || posted_in t k ds
posted_in t k (carry a b ∷ ds) = posted_in t k ds

pub posted_in_append : (t : Tree) (k : ℕ) (ds es : List Command) → posted_in t k (ds ++ es) ≡ (posted_in t k ds || posted_in t k es)
unfolding posted_in
posted_in_append t k [] es = refl
posted_in_append t k (join b n f ∷ ds) es = posted_in_append t k ds es
posted_in_append t k (leave b n ∷ ds) es = posted_in_append t k ds es
posted_in_append t k (post b j e ∷ ds) es =
    let r = posted_in_append t k ds es in
    grind arith
posted_in_append t k (carry a b ∷ ds) es = posted_in_append t k ds es

-- the first posting counts
pub notice_of_append :
    (t : Tree) (k : ℕ) (ds es : List Command) → notice_of t k (ds ++ es) ≡ cond (posted_in t k ds) (notice_of t k ds) (notice_of t k es)
unfolding posted_in notice_of
notice_of_append t k [] es = refl
notice_of_append t k (join b n f ∷ ds) es = notice_of_append t k ds es
notice_of_append t k (leave b n ∷ ds) es = notice_of_append t k ds es
notice_of_append t k (post b j e ∷ ds) es = go (leb b (length t) && eqb j k) (notice_of_append t k ds es)
  where
    go :
        (v : Bool) → notice_of t k (ds ++ es) ≡ cond (posted_in t k ds) (notice_of t k ds) (notice_of t k es) →
        cond v e (notice_of t k (ds ++ es)) ≡ cond (v || posted_in t k ds) (cond v e (notice_of t k ds)) (notice_of t k es)
    go true r = refl
    go false r = r
notice_of_append t k (carry a b ∷ ds) es = notice_of_append t k ds es

refused_post : (x z h g : Bool) → (x && not h) ≡ false → (z ≡ true → h ≡ g) → g ≡ (g || ((x && z) || false))
refused_post true true true true p q = refl
refused_post true true true false p q = sym (q refl)
refused_post true true false g p q = grind arith
refused_post true false h true p q = refl
refused_post true false h false p q = refl
refused_post false z h true p q = refl
refused_post false z h false p q = refl

or_none : (x : Bool) → x ≡ (x || false)
or_none true = refl
or_none false = refl

or_turn : (x y : Bool) → (x || y) ≡ (y || (x || false))
or_turn true true = refl
or_turn true false = refl
or_turn false true = refl
or_turn false false = refl

refused_reads : (t : Tree) (s : Network) (b j : ℕ) (e : Notice) → allowed t s (post b j e) ≡ false → (leb b (length t) && not (has s.posted j)) ≡ false
unfolding allowed
refused_reads t s b j e r = r

step_listed : (t : Tree) (s : Network) (d : Command) (k : ℕ) → has (step t s d).posted k ≡ (has s.posted k || posted_in t k (d ∷ []))
unfolding posted_in tell arrive has
step_listed t s d k =
    by_cases
    t
    s
    (λ d u. has u.posted k ≡ (has s.posted k || posted_in t k (d ∷ [])))
    (record {
      refused = refuses;
      idle = λ a b q. or_none (has s.posted k);
      joined = λ b n f hb new. or_none (has s.posted k);
      left = λ b n hb there. or_none (has s.posted k);
      posted = λ b j e hb new. rw (le-leb b (length t) hb) (or_turn (eqb j k) (has s.posted k));
      told = λ a b m ms ha e q tid. or_none (has s.posted k);
      noticed = λ a b j e ms ha f q. or_none (has s.posted k);
    })
    d
  where
    refuses : (d : Command) → allowed t s d ≡ false → has s.posted k ≡ (has s.posted k || posted_in t k (d ∷ []))
    refuses (join b n f) r = or_none (has s.posted k)
    refuses (leave b n) r = or_none (has s.posted k)
    refuses (post b j e) r =
        refused_post (leb b (length t)) (eqb j k) (has s.posted j) (has s.posted k) (refused_reads t s b j e r)
        (λ i. ap (has s.posted) (eqb-true j k i))
    refuses (carry a b) r = or_none (has s.posted k)

told_posted : (t : Tree) (b : ℕ) (u : Network) (k : ℕ) → has (tell t b u).posted k ≡ true → has u.posted k ≡ true
unfolding tell
told_posted t b u k p = p

arrived_posted : (t : Tree) (b m j : ℕ) (e : Notice) (u : Network) (k : ℕ) → has (arrive t b m j e u).posted k ≡ true → has u.posted k ≡ true
unfolding arrive
arrived_posted t b m j e u k p = p

posted_other :
    (t : Tree) (b j : ℕ) (e : Notice) (s : Network) (k : ℕ) → eqb j k ≡ false → has (arrive t b b j e (with_posted s j)).posted k ≡ true → has s.posted k ≡ true
unfolding arrive has
posted_other t b j e s k ne p = grind arith

pub record Said (t : Tree) (ds : List Command) (s : Network) : Type 0 where
  pub listed : (k : ℕ) → has s.posted k ≡ posted_in t k ds
  pub said : (k : ℕ) → has s.posted k ≡ true → Alike k (notice_of t k ds) s.channel

module _ (t : Tree) (hung : hangs t ≡ true) where
  -- after one command more: what was posted before stays what it was, and what is posted now is this command's
  pub notice_of_old : (ds : List Command) (s : Network) → Said t ds s → (d : Command) (k : ℕ) → has s.posted k ≡ true → notice_of t k (ds ++ d ∷ []) ≡ notice_of t k ds
  notice_of_old ds s h d k p = notice_of_append t k ds (d ∷ []) ∙ rw (sym (h.listed k) ∙ p)

  pub notice_of_new :
      (ds : List Command) (s : Network) → Said t ds s → (b k : ℕ) (e : Notice) → b ≤ length t → has s.posted k ≡ false → notice_of t k (ds ++ post b k e ∷ []) ≡ e
  unfolding notice_of
  notice_of_new ds s h b k e hb new =
      notice_of_append t k ds (post b k e ∷ []) ∙ rw (sym (h.listed k) ∙ new, le-leb b (length t) hb, eq-eqb k k refl)

  step_said : (ds : List Command) (s : Network) → Right t s → Said t ds s → (d : Command) → Said t (ds ++ d ∷ []) (step t s d)
  unfolding Alike
  step_said ds s r h d =
      record {
        listed = λ k.
            let i = step_listed t s d k in
            let j = posted_in_append t k ds (d ∷ []) in
            i ∙ (ap (λ v. v || posted_in t k (d ∷ [])) (h.listed k) ∙ sym j);
        said = λ k p. go k (has s.posted k) refl p;
      }
    where
      go : (k : ℕ) (v : Bool) → has s.posted k ≡ v → has (step t s d).posted k ≡ true → Alike k (notice_of t k (ds ++ d ∷ [])) (step t s d).channel
      go k true q p = rw (notice_of_old ds s h d k q) (step_alike t k (notice_of t k ds) s d q (h.said k q))
      go k false q p =
          by_cases
          t
          s
          (λ d u. has u.posted k ≡ true → Alike k (notice_of t k (ds ++ d ∷ [])) u.channel)
          (record {
            refused = λ d r p. absurd (both_ways (has s.posted k) q p);
            idle = λ a b r p. absurd (both_ways (has s.posted k) q p);
            joined = λ b n f hb new p. absurd (both_ways (has s.posted k) q (told_posted t b _ k p));
            left = λ b n hb there p. absurd (both_ways (has s.posted k) q (told_posted t b _ k p));
            posted = λ b j e hb new p. newly b j e hb new p (eqb j k) refl;
            told = λ a b m ms ha e r tid p. absurd (both_ways (has s.posted k) q (told_posted t b _ k p));
            noticed = λ a b j e ms ha f r p. absurd (both_ways (has s.posted k) q (arrived_posted t b a j e _ k p));
          })
          d
          p
        where
          newly :
              (b j : ℕ) (e : Notice) → b ≤ length t → has s.posted j ≡ false → has (arrive t b b j e (with_posted s j)).posted k ≡ true →
              (v : Bool) → eqb j k ≡ v → Alike k (notice_of t k (ds ++ post b j e ∷ [])) (arrive t b b j e (with_posted s j)).channel
          newly b j e hb new p true i =
              let n = notice_of_new ds s h b j e hb new in
              rw (← (eqb-true j k i), n) (posted_alike t j e s b r.notices new)
          newly b j e hb new p false i = absurd (both_ways (has s.posted k) q (posted_other t b j e s k i p))

  end_said : (es ds : List Command) (s : Network) → Right t s → Said t ds s → Said t (ds ++ es) (end t s es)
  unfolding end
  end_said [] ds s r h = rw (append-nil ds) h
  end_said (d ∷ es) ds s r h =
      let i = end_said es (ds ++ d ∷ []) (step t s d) (step_right t hung s d r) (step_said ds s r h d) in
      rw append_assoc at i

  pub said_to_end : (ds : List Command) → Said t ds (end t empty ds)
  unfolding Alike alike has posted_in end
  said_to_end ds =
      end_said ds [] empty (right t hung []) (record { listed = λ k. refl; said = λ k p a b. refl })

  takers_find : (n : ℕ) (e : Notice) (rs : List Subscriber) → 0 < takers n e rs → (f : Filter) × (subscribed n f rs ≡ true) × (matches f e ≡ true)
  unfolding takers subscribed
  takers_find n e [] l = absurd (omega arith)
  takers_find n e (r ∷ rs) l = go (eqb r.number n && matches r.filter e) refl (takers_find n e rs)
    where
      go :
          (v : Bool) → (eqb r.number n && matches r.filter e) ≡ v →
          (0 < takers n e rs → (f : Filter) × (subscribed n f rs ≡ true) × (matches f e ≡ true)) →
          (f : Filter) × (((eqb r.number n && same r.filter f) || subscribed n f rs) ≡ true) × (matches f e ≡ true)
      go true q i =
          let (x, y) = and_parts (eqb r.number n) (matches r.filter e) q in
          let z = same_refl r.filter in
          (r.filter, (grind arith), y)
      go false q i =
          let (f, x, y) = i (let m : 0 < one (eqb r.number n && matches r.filter e) + takers n e rs = l in grind arith) in
          (f, (grind arith), y)

  -- what is under way was posted, and is what was posted
  pub under_way_posted :
      (s : Network) → Right t s → (a b j : ℕ) (e : Notice) (ms : List Message) → s.channel a b ≡ notice j e ∷ ms → has s.posted j ≡ true
  unfolding copies copy
  under_way_posted s r a b j e ms q = go (has s.posted j) refl
    where
      go : (v : Bool) → has s.posted j ≡ v → v ≡ true
      go true i = refl
      go false i =
          let z : copies j (notice j e ∷ ms) ≡ 0 = ap (copies j) (sym q) ∙ r.notices.unposted_copies j i a b in
          let y = eq-eqb j j refl in
          absurd (let w : ◌≡◌ {A = ℕ} 0 1 = grind arith in omega arith)

  pub under_way :
      (ds : List Command) (s : Network) → Right t s → Said t ds s → (a b j : ℕ) (e : Notice) (ms : List Message) → s.channel a b ≡ notice j e ∷ ms →
      (d : Command) (k : ℕ) → j ≡ k → notice_of t k (ds ++ d ∷ []) ≡ e
  unfolding Alike
  under_way ds s r h a b j e ms q d k i =
      let p = under_way_posted s r a b j e ms q in
      let o = notice_of_old ds s h d j p in
      let l = alike_head j (notice_of t j ds) j e ms (ap (alike j (notice_of t j ds)) (sym q) ∙ h.said j p a b) refl in
      rw (← i) (o ∙ sym l)

  -- whoever is delivered a notice by a command is subscribed at that moment with a filter that it matches
  pub wished_for :
      (ds : List Command) (s : Network) → Right t s → Said t ds s → (d : Command) →
      (hs : List Delivery) × ((step t s d).deliveries ≡ s.deliveries ++ hs)
      × ((k n : ℕ) → 0 < times k n hs →
      (b : ℕ) × (f : Filter) × (b ≤ length t) × (subscribed n f (s.subscribers b) ≡ true) × (matches f (notice_of t k (ds ++ d ∷ [])) ≡ true))
  unfolding tell arrive times
  wished_for ds s r h d =
      by_cases
      t
      s
      (λ d u. Grown d u.deliveries)
      (record {
        refused = λ d r. none d;
        idle = λ a b q. none (carry a b);
        joined = λ b n f hb new. none (join b n f);
        left = λ b n hb there. none (leave b n);
        posted = λ b j e hb new. (
          delivered j e (s.subscribers b),
          refl,
          (λ k n l. takes b j e (post b j e) hb k n (λ i. rw (← i) (notice_of_new ds s h b j e hb new)) l),
        );
        told = λ a b m ms ha e q tid. none (carry a b);
        noticed = λ a b j e ms ha f q.
            (delivered j e (s.subscribers b), refl, (λ k n l. takes b j e (carry a b) (edge_within t a b hung f).1 k n (λ i. under_way ds s r h a b j e ms q (carry a b) k i) l));
      })
      d
    where
      Grown : Command → List Delivery → Type 0
      Grown d all =
          (hs : List Delivery) × (all ≡ s.deliveries ++ hs)
          × ((k n : ℕ) → 0 < times k n hs →
          (b : ℕ) × (f : Filter) × (b ≤ length t) × (subscribed n f (s.subscribers b) ≡ true) × (matches f (notice_of t k (ds ++ d ∷ [])) ≡ true))

      none : (d : Command) → Grown d s.deliveries
      none d = ([], sym (append-nil s.deliveries), (λ k n l. absurd (never k n l)))
        where
          never : (k n : ℕ) → 0 < times k n [] → ⊥
          never k n l = omega arith

      takes :
          (b j : ℕ) (e : Notice) (d : Command) → b ≤ length t → (k n : ℕ) → (j ≡ k → notice_of t k (ds ++ d ∷ []) ≡ e) → 0 < times k n (delivered j e (s.subscribers b)) →
          (x : ℕ) × (f : Filter) × (x ≤ length t) × (subscribed n f (s.subscribers x) ≡ true) × (matches f (notice_of t k (ds ++ d ∷ [])) ≡ true)
      takes b j e d hb k n same l = go (eqb j k) refl (times_delivered k j n e (s.subscribers b))
        where
          go :
              (v : Bool) → eqb j k ≡ v → times k n (delivered j e (s.subscribers b)) ≡ cond v (takers n e (s.subscribers b)) 0 →
              (x : ℕ) × (f : Filter) × (x ≤ length t) × (subscribed n f (s.subscribers x) ≡ true) × (matches f (notice_of t k (ds ++ d ∷ [])) ≡ true)
          go true i z =
              let (f, x, y) = takers_find n e (s.subscribers b) (omega arith) in
              (b, f, hb, x, rw (same (eqb-true j k i)) y)
          go false i z = absurd (omega arith)
