-- The promises from the network that is in memory on.
use Rattle.std.proofs.Common.{◌≡◌, ℕ, ◌*◌, ◌≤◌, Bool, true, false, not, ◌&&◌, ◌||◌, eqb, leb, List, [], ◌∷◌, map, length, take, Some, None, Option, sym, refl, ap, ◌∙◌, subst, arith}
use Rattle.std.specs.List.{AllByRecursion}
use Rattle.std.proofs.lemmas.Bool.{and_parts, and_from, not-true, leb-true}
use Rattle.filter.specs.declared.value.Notice as P
use Rattle.filter.specs.Filter.{Filter, Notice, covers, same}
use Rattle.filter.proofs.Laws.{covers_refl, same_eq}
use Rattle.broker.specs.Subscribers.{Subscriber}
use Rattle.model.specs.Tree.{has}
use Rattle.model.specs.Model.{Network, post, allowed, step, end, empty, Quiet}
use Rattle.model.specs.Promise.{KnownToAll, subscribed, is_leave, stays, times, accepted, is_quiet}
use Rattle.model.proofs.Tree.{neighbours_edge}
use Rattle.model.proofs.Decide.{tested}
use Rattle.model.proofs.Turns.{refusals}
use Rattle.model.proofs.Quiet.{quiet_tables}
use Rattle.model.proofs.Stays.{stays_known_to_all, quiet_known}
use Rattle.model.proofs.Kept.{third_once, third_never, second, third}
use Rattle.layout.specs.Parts.{tree}
use Rattle.layout.specs.State.{network_of}
use Rattle.steps.specs.Rules.{command_of, refusal_of, outcome, after}
use Rattle.steps.specs.Sound.{Sound}
use Rattle.network.specs.Promised.{Promised, Quietness, played, kept_if, done, KeptPromises}
use Rattle.layout.specs.declared.opening.Opening.{Opening}
use Rattle.layout.specs.declared.command.Command.{Command}
use Rattle.layout.specs.declared.command.Command.TheVariants.{Post}
use Rattle.layout.specs.declared.refusal.Refusal.{Refusal}
use Rattle.layout.proofs.Written.{tree_length, tree_hung}
use Rattle.steps.proofs.Ruled.{unrefused}

-- a subscriber of the list has what all of them have
subscribed_all : (P : Filter → Type 0) (n : ℕ) (f : Filter) (rs : List Subscriber) → AllByRecursion (λ r. P r.filter) rs → subscribed n f rs ≡ true → P f
unfolding subscribed
subscribed_all P n f [] a h =
    let z : ◌≡◌ {A = ℕ} 0 1 = cc in
    absurd (omega arith)
subscribed_all P n f (r ∷ rs) a h = go (eqb r.number n && same r.filter f) refl h (subscribed_all P n f rs a.1)
  where
    go : (v : Bool) → (eqb r.number n && same r.filter f) ≡ v → (v || subscribed n f rs) ≡ true → (subscribed n f rs ≡ true → P f) → P f
    go true e h i =
        let s = same_eq r.filter f (and_parts (eqb r.number n) (same r.filter f) e).1 in
        subst P s a.0
    go false e h i = i h

module _ (o : Opening) (memory : List ℕ) (h : Sound o memory) where
  -- the third promise, from a notice that is posted on
  promised : (b k : ℕ) (e : Notice) → b ≤ length (tree o) → has (network_of o memory).posted k ≡ false → Promised o (network_of o memory) k e (step (tree o) (network_of o memory) (post b k e))
  unfolding stays is_leave end
  promised b k e within new =
      record {
        exactly_once = λ may es c n f hc sub all st quiet.
            let a = refusals may (tree o) (step (tree o) (network_of o memory) (post b k e)) es in
            let q : Quiet (tree o) (end (tree o) (step (tree o) (network_of o memory) (post b k e)) (accepted may (tree o) (step (tree o) (network_of o memory) (post b k e)) es)) = subst (Quiet (tree o)) a.same quiet in
            ap (λ u. times k n u.deliveries) a.same
            ∙ third_once (tree o) (tree_hung o) (network_of o memory) h.invariant.right (accepted may (tree o) (step (tree o) (network_of o memory) (post b k e)) es) b k c n e f within hc new sub all (a.staying c n st) q;
        never = λ may es c n f hc sub st miss.
            let a = refusals may (tree o) (step (tree o) (network_of o memory) (post b k e)) es in
            ap (λ u. times k n u.deliveries) a.same
            ∙ third_never (tree o) (tree_hung o) (network_of o memory) h.invariant.right (accepted may (tree o) (step (tree o) (network_of o memory) (post b k e)) es) b k c n e f within hc new sub (a.staying c n st) miss;
        stays_known = λ may es c n f hc sub all st.
            let a = refusals may (tree o) (step (tree o) (network_of o memory) (post b k e)) es in
            let r = stays_known_to_all (tree o) (tree_hung o) c hc n f (post b k e ∷ accepted may (tree o) (step (tree o) (network_of o memory) (post b k e)) es) (network_of o memory) h.invariant.right sub (a.staying c n st) all in
            subst (λ u. KnownToAll (tree o) u c f) (sym a.same) r;
      }

  -- .. as the contract of the call has it
  pub promised_after : (b k : ℕ) (e : P.Notice) (u : Network) → refusal_of o (network_of o memory) (Post b k e) ≡ None → u ≡ after o (network_of o memory) (Post b k e) →
      Promised o (network_of o memory) k (take o.ranges e.numbers) u
  unfolding after allowed
  promised_after b k e u r q =
      let (x, y) = and_parts (leb b (length (tree o))) (not (has (network_of o memory).posted k)) (unrefused o (network_of o memory) (Post b k e) r) in
      let p : u ≡ step (tree o) (network_of o memory) (post b k (take o.ranges e.numbers)) =
      q ∙ ap (λ v. outcome v (step (tree o) (network_of o memory) (post b k (take o.ranges e.numbers))) (network_of o memory)) r in
      subst (Promised o (network_of o memory) k (take o.ranges e.numbers)) (sym p) (promised b k (take o.ranges e.numbers) (leb-true b (length (tree o)) x) (not-true (has (network_of o memory).posted k) y))

  pub quietness : (quiet : Bool) → quiet ≡ is_quiet (tree o) (network_of o memory) → Quietness o (network_of o memory) quiet
  quietness quiet e =
      record {
        decides = ((λ q. still q), (λ q. e ∙ (tested (tree o) (network_of o memory)).quiet.1 q));
        tables = λ q b n hb beside.
            quiet_tables (tree o) (tree_hung o) (network_of o memory) h.invariant.right.tables (still q) b n (sym (neighbours_edge (tree o) b n hb) ∙ beside);
        known = λ q c n f hc sub. quiet_known (tree o) (tree_hung o) c hc (network_of o memory) h.invariant.right (still q) n f sub (self c n f hc sub);
      }
    where
      still : quiet ≡ true → Quiet (tree o) (network_of o memory)
      still q = (tested (tree o) (network_of o memory)).quiet.0 (sym e ∙ q)

      self : (c n : ℕ) (f : Filter) → c ≤ length (tree o) → subscribed n f ((network_of o memory).subscribers c) ≡ true → covers f f ≡ true
      self c n f hc sub =
          let l = tree_length o in
          let w = (h.formed.subscribers c (omega arith)).wide in
          let k = subscribed_all (λ g. length g ≡ 2 * o.ranges) n f ((network_of o memory).subscribers c) w sub in
          covers_refl f (omega arith)

-- a command that is done is one step, and one that is refused is none
played_done : (o : Opening) (ds : List Command) (s : Network) → played o s ds ≡ end (tree o) s (done o s ds)
unfolding played done end after
played_done o [] s = refl
played_done o (d ∷ ds) s = go (refusal_of o s d) (played_done o ds)
  where
    go : (r : Option Refusal) → ((u : Network) → played o u ds ≡ end (tree o) u (done o u ds)) →
        played o (outcome r (step (tree o) s (command_of o d)) s) ds ≡ end (tree o) s (kept_if r (command_of o d) (done o (outcome r (step (tree o) s (command_of o d)) s) ds))
    go None i = i (step (tree o) s (command_of o d))
    go (Some r) i = i s

done_stays : (o : Opening) (ds : List Command) (s : Network) (c n : ℕ) → stays c n (map (command_of o) ds) ≡ true → stays c n (done o s ds) ≡ true
unfolding done stays
done_stays o [] s c n h = refl
done_stays o (d ∷ ds) s c n h =
    let (p, q) = and_parts (not (is_leave c n (command_of o d))) (stays c n (map (command_of o) ds)) h in
    go (refusal_of o s d) p (done_stays o ds (after o s d) c n q)
  where
    go : (r : Option Refusal) → not (is_leave c n (command_of o d)) ≡ true → stays c n (done o (after o s d) ds) ≡ true → stays c n (kept_if r (command_of o d) (done o (after o s d) ds)) ≡ true
    go None p q = and_from (not (is_leave c n (command_of o d))) (stays c n (done o (after o s d) ds)) p q
    go (Some r) p q = q

pub kept_promises : (o : Opening) (ds : List Command) (many : ℕ) (s : Network) → s ≡ played o empty ds → many ≡ length (done o empty ds) → KeptPromises o ds many s
kept_promises o ds many s e c =
    record {
      network = e;
      counted = c;
      reached = e ∙ played_done o ds empty;
      second = second (tree o) (tree_hung o) (done o empty ds);
      third = third (tree o) (tree_hung o) (done o empty ds);
      staying = λ x n h. done_stays o ds empty x n h;
    }
