-- All copies of a notice under way carry the notice that was posted with its number.
use Rattle.std.proofs.Common.{◌≡◌, ℕ, Bool, true, false, cond, not, ◌&&◌, ◌||◌, eqb, List, [], ◌∷◌, ◌++◌, refl, ◌∙◌, arith}
use Rattle.std.proofs.lemmas.Bool.{eqb-true, eq-eqb, and_parts, and_from, or_right}
use Rattle.filter.specs.Filter.{Filter, Notice, same}
use Rattle.filter.proofs.Laws.{same_refl, same_eq}
use Rattle.cover.specs.Maximal.{any_matches, minus}
use Rattle.model.specs.Tree.{Tree, has, neighbours}
use Rattle.model.specs.Model.{Message, add, cut, notice, Network, adds, cuts, batch, announcement, tell, arrive, passed_on, with_posted, taken, Command, step}
use Rattle.model.specs.Promise.{copy, copies}
use Rattle.model.specs.Invariant.{Notices}
use Rattle.model.proofs.Tree.{has_apart}
use Rattle.model.proofs.Cases.{by_cases}

-- the copies of notice k among the messages carry x
unfoldable pub alike : ℕ → Notice → List Message → Bool
alike k x [] = true
alike k x (add f ∷ ms) = alike k x ms
alike k x (cut f ∷ ms) = alike k x ms
alike k x (notice j e ∷ ms) = (not (eqb j k) || same e x) && alike k x ms

pub alike_append : (k : ℕ) (x : Notice) (ms ns : List Message) → alike k x (ms ++ ns) ≡ (alike k x ms && alike k x ns)
unfolding alike
alike_append k x [] ns = refl
alike_append k x (add f ∷ ms) ns = alike_append k x ms ns
alike_append k x (cut f ∷ ms) ns = alike_append k x ms ns
alike_append k x (notice j e ∷ ms) ns =
    let r = alike_append k x ms ns in
    grind arith

alike_adds : (k : ℕ) (x : Notice) (fs : List Filter) → alike k x (adds fs) ≡ true
unfolding alike adds
alike_adds k x [] = refl
alike_adds k x (f ∷ fs) = alike_adds k x fs

alike_cuts : (k : ℕ) (x : Notice) (fs : List Filter) → alike k x (cuts fs) ≡ true
unfolding alike cuts
alike_cuts k x [] = refl
alike_cuts k x (f ∷ fs) = alike_cuts k x fs

alike_batch : (k : ℕ) (x : Notice) (old new : List Filter) → alike k x (batch old new) ≡ true
unfolding batch
alike_batch k x old new =
    alike_append k x (adds (minus new old)) (cuts (minus old new))
    ∙ and_from (alike k x (adds (minus new old))) (alike k x (cuts (minus old new))) (alike_adds k x (minus new old)) (alike_cuts k x (minus old new))

alike_none : (k : ℕ) (x : Notice) (ms : List Message) → copies k ms ≡ 0 → alike k x ms ≡ true
unfolding alike copies copy
alike_none k x [] h = refl
alike_none k x (add f ∷ ms) h = alike_none k x ms (omega arith)
alike_none k x (cut f ∷ ms) h = alike_none k x ms (omega arith)
alike_none k x (notice j e ∷ ms) h =
    let r = alike_none k x ms in
    grind arith

alike_passed_on :
    (k : ℕ) (x : Notice) (m j : ℕ) (e : Notice) (table : ℕ → List Filter) (n : ℕ) → (j ≡ k → e ≡ x) → alike k x (passed_on m j e table n) ≡ true
unfolding alike passed_on
alike_passed_on k x m j e table n h = go (not (eqb n m) && any_matches (table n) e) (eqb j k) refl
  where
    go : (v w : Bool) → eqb j k ≡ w → alike k x (cond v (notice j e ∷ []) []) ≡ true
    go true true q =
        let s : same e x ≡ true = rw (h (eqb-true j k q)) (same_refl x) in
        grind arith
    go true false q = grind arith
    go false w q = refl

alike_tail : (k : ℕ) (x : Notice) (m : Message) (ms : List Message) → alike k x (m ∷ ms) ≡ true → alike k x ms ≡ true
unfolding alike
alike_tail k x (add f) ms h = h
alike_tail k x (cut f) ms h = h
alike_tail k x (notice j e) ms h = (and_parts (not (eqb j k) || same e x) (alike k x ms) h).1

pub alike_head : (k : ℕ) (x : Notice) (j : ℕ) (e : Notice) (ms : List Message) → alike k x (notice j e ∷ ms) ≡ true → j ≡ k → e ≡ x
unfolding alike
alike_head k x j e ms h i =
    let y = eq-eqb j k i in
    same_eq e x (grind arith)

-- on every channel
unfoldable pub Alike : ℕ → Notice → (ℕ → ℕ → List Message) → Type 0
Alike k x channel = (a b : ℕ) → alike k x (channel a b) ≡ true

module _ (t : Tree) (k : ℕ) (x : Notice) where
  tell_alike : (b : ℕ) (u : Network) → Alike k x u.channel → Alike k x (tell t b u).channel
  unfolding Alike tell
  tell_alike b u h y n = go (eqb y b && has (neighbours t b) n)
    where
      go : (v : Bool) → alike k x (cond v (u.channel y n ++ batch (u.announced b n) (announcement t u b n)) (u.channel y n)) ≡ true
      go true =
          alike_append k x (u.channel y n) (batch (u.announced b n) (announcement t u b n))
          ∙ and_from (alike k x (u.channel y n)) (alike k x (batch (u.announced b n) (announcement t u b n))) (h y n) (alike_batch k x (u.announced b n) (announcement t u b n))
      go false = h y n

  arrive_alike : (b m j : ℕ) (e : Notice) (u : Network) → (j ≡ k → e ≡ x) → Alike k x u.channel → Alike k x (arrive t b m j e u).channel
  unfolding Alike arrive
  arrive_alike b m j e u i h y n = go (eqb y b && has (neighbours t b) n)
    where
      go : (v : Bool) → alike k x (cond v (u.channel y n ++ passed_on m j e (u.learned b) n) (u.channel y n)) ≡ true
      go true =
          alike_append k x (u.channel y n) (passed_on m j e (u.learned b) n)
          ∙ and_from (alike k x (u.channel y n)) (alike k x (passed_on m j e (u.learned b) n)) (h y n) (alike_passed_on k x m j e (u.learned b) n i)
      go false = h y n

  taken_alike :
      (s : Network) (a b : ℕ) (m : Message) (ms : List Message) → s.channel a b ≡ m ∷ ms → Alike k x s.channel → Alike k x (taken s a b m ms).channel
  unfolding Alike
  taken_alike s a b m ms q h y n = go (eqb y a && eqb n b)
    where
      go : (v : Bool) → alike k x (cond v ms (s.channel y n)) ≡ true
      go true = alike_tail k x m ms (rw q at (h a b))
      go false = h y n

  -- once a notice is posted its copies stay alike
  pub step_alike : (s : Network) (d : Command) → has s.posted k ≡ true → Alike k x s.channel → Alike k x (step t s d).channel
  unfolding Alike
  step_alike s d p h =
      by_cases
      t
      s
      (λ d u. Alike k x u.channel)
      (record {
        refused = λ d r. h;
        idle = λ x y q. h;
        joined = λ b n f hb new. tell_alike b _ h;
        left = λ b n hb there. tell_alike b _ h;
        posted = λ b j e hb new.
            arrive_alike b b j e (with_posted s j)
            (λ i. absurd (has_apart s.posted j k p new i))
            h;
        told = λ a b m ms ha e q tid. tell_alike b _ (taken_alike s a b m ms q h);
        noticed = λ a b j e ms ha f q.
            arrive_alike b a j e _ (alike_head k x j e ms (rw q at (h a b))) (taken_alike s a b (notice j e) ms q h);
      })
      d

  -- .. and when it is posted they carry it
  pub posted_alike :
      (s : Network) (b : ℕ) → Notices t s → has s.posted k ≡ false → Alike k x (arrive t b b k x (with_posted s k)).channel
  unfolding Alike
  posted_alike s b h new = arrive_alike b b k x (with_posted s k) (λ i. refl) (λ y n. alike_none k x (s.channel y n) (h.unposted_copies k new y n))

  pub step_posted : (s : Network) (d : Command) → has s.posted k ≡ true → has (step t s d).posted k ≡ true
  unfolding tell arrive has
  step_posted s d p =
      by_cases
      t
      s
      (λ d u. has u.posted k ≡ true)
      (record {
        refused = λ d r. p;
        idle = λ x y q. p;
        joined = λ b n f hb new. p;
        left = λ b n hb there. p;
        posted = λ b j e hb new. or_right (eqb j k) (has s.posted k) p;
        told = λ a b m ms ha e q tid. p;
        noticed = λ a b j e ms ha f q. p;
      })
      d
