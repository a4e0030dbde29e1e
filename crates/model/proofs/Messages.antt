-- What messages make of a table: replay and what lasts, over a list in two parts and over the batch from one announcement to the next.
use Rattle.std.proofs.Common.{◌≡◌, Bool, true, List, [], ◌∷◌, ◌++◌, refl, ◌∙◌, append_assoc, append-nil}
use Rattle.std.proofs.lemmas.Bool.{and_from, and_parts}
use Rattle.filter.specs.Filter.{Filter}
use Rattle.cover.specs.Maximal.{put, without, minus}
use Rattle.cover.specs.Sorted.{sorted}
use Rattle.cover.specs.Replay.{puts, takes, Between}
use Rattle.cover.proofs.Changes.{puts_append, takes_append, replay_puts, replay_takes}
use Rattle.cover.proofs.Changes as changes
use Rattle.cover.proofs.Order.{sorted_put, sorted_without}
use Rattle.model.specs.Model.{Message, add, cut, notice, after, adds, cuts, batch}
use Rattle.model.specs.Promise.{replay, lasts}

pub replay_append : (ms ns : List Message) (fs : List Filter) → replay (ms ++ ns) fs ≡ replay ns (replay ms fs)
unfolding replay
replay_append [] ns fs = refl
replay_append (m ∷ ms) ns fs = replay_append ms ns (after m fs)

pub lasts_now : (P : List Filter → Bool) (ms : List Message) (fs : List Filter) → lasts P ms fs ≡ true → P fs ≡ true
unfolding lasts
lasts_now P [] fs h = h
lasts_now P (m ∷ ms) fs h = (and_parts (P fs) (lasts P ms (after m fs)) h).0

pub lasts_end : (P : List Filter → Bool) (ms : List Message) (fs : List Filter) → lasts P ms fs ≡ true → P (replay ms fs) ≡ true
unfolding lasts replay
lasts_end P [] fs h = h
lasts_end P (m ∷ ms) fs h = lasts_end P ms (after m fs) (and_parts (P fs) (lasts P ms (after m fs)) h).1

pub lasts_after : (P : List Filter → Bool) (m : Message) (ms : List Message) (fs : List Filter) → lasts P (m ∷ ms) fs ≡ true → lasts P ms (after m fs) ≡ true
unfolding lasts
lasts_after P m ms fs h = (and_parts (P fs) (lasts P ms (after m fs)) h).1

pub lasts_append :
    (P : List Filter → Bool) (ms ns : List Message) (fs : List Filter) → lasts P ms fs ≡ true → lasts P ns (replay ms fs) ≡ true → lasts P (ms ++ ns) fs ≡ true
unfolding lasts replay
lasts_append P [] ns fs h k = k
lasts_append P (m ∷ ms) ns fs h k =
    let p = and_parts (P fs) (lasts P ms (after m fs)) h in
    and_from (P fs) (lasts P (ms ++ ns) (after m fs)) p.0 (lasts_append P ms ns (after m fs) p.1 k)

pub replay_adds : (fs gs : List Filter) (ms : List Message) → replay (adds fs ++ ms) gs ≡ replay ms (puts fs gs)
unfolding replay adds puts after
replay_adds [] gs ms = refl
replay_adds (f ∷ fs) gs ms = replay_adds fs (put f gs) ms

pub replay_cuts : (fs gs : List Filter) → replay (cuts fs) gs ≡ takes fs gs
unfolding replay cuts takes after
replay_cuts [] gs = refl
replay_cuts (f ∷ fs) gs = replay_cuts fs (without f gs)

-- the batch from one announcement to the next makes the one of the other
pub replay_batch : (old new : List Filter) → sorted old ≡ true → sorted new ≡ true → replay (batch old new) old ≡ new
unfolding batch
replay_batch old new p q =
    replay_adds (minus new old) old (cuts (minus old new)) ∙ (replay_cuts (minus old new) (puts (minus new old) old) ∙ changes.replay old new p q)

module _ (P : List Filter → Bool) (old new : List Filter) (p : sorted old ≡ true) (between : (gs : List Filter) → Between old new gs → P gs ≡ true) where
  lasts_cuts : (rest done : List Filter) → minus old new ≡ done ++ rest → lasts P (cuts rest) (takes done (puts (minus new old) old)) ≡ true
  unfolding lasts cuts after takes
  lasts_cuts [] done e = between (takes done (puts (minus new old) old)) (replay_takes old new done [] p e)
  lasts_cuts (f ∷ rest) done e =
      let r = lasts_cuts rest (done ++ f ∷ []) (rw append_assoc e) in
      and_from
      (P (takes done (puts (minus new old) old)))
      (lasts P (cuts rest) (without f (takes done (puts (minus new old) old))))
      (between (takes done (puts (minus new old) old)) (replay_takes old new done (f ∷ rest) p e))
      (rw (takes_append done (f ∷ []) (puts (minus new old) old)) at r)

  lasts_adds : (rest done : List Filter) → minus new old ≡ done ++ rest → lasts P (adds rest ++ cuts (minus old new)) (puts done old) ≡ true
  unfolding lasts adds after puts takes
  lasts_adds [] done e =
      let c = lasts_cuts (minus old new) [] refl in
      rw (e ∙ append-nil done) at c
  lasts_adds (f ∷ rest) done e =
      let r = lasts_adds rest (done ++ f ∷ []) (rw append_assoc e) in
      and_from
      (P (puts done old))
      (lasts P (adds rest ++ cuts (minus old new)) (put f (puts done old)))
      (between (puts done old) (replay_puts old new done (f ∷ rest) p e))
      (rw (puts_append done (f ∷ []) old) at r)

  -- what holds of every table between two announcements lasts through the batch
  pub lasts_batch : lasts P (batch old new) old ≡ true
  unfolding batch puts
  lasts_batch = lasts_adds (minus new old) [] refl

pub after_sorted : (m : Message) (fs : List Filter) → sorted fs ≡ true → sorted (after m fs) ≡ true
unfolding after
after_sorted (add f) fs h = sorted_put f fs h
after_sorted (cut f) fs h = sorted_without f fs h
after_sorted (notice k e) fs h = h

pub lasts_weaker :
    (P Q : List Filter → Bool) → ((fs : List Filter) → P fs ≡ true → Q fs ≡ true) → (ms : List Message) (fs : List Filter) → lasts P ms fs ≡ true →
    lasts Q ms fs ≡ true
unfolding lasts
lasts_weaker P Q h [] fs l = h fs l
lasts_weaker P Q h (m ∷ ms) fs l =
    let (p, q) = and_parts (P fs) (lasts P ms (after m fs)) l in
    and_from (Q fs) (lasts Q ms (after m fs)) (h fs p) (lasts_weaker P Q h ms (after m fs) q)
