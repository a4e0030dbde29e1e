-- The promises, each from what holds after every list of commands.
use Rattle.std.proofs.Common.{◌≡◌, ℕ, suc, ◌+◌, ◌≤◌, Bool, true, false, cond, not, eqb, leb, List, [], ◌∷◌, ◌++◌, length, sym, refl, ap, ◌∙◌, arith}
use Rattle.std.proofs.lemmas.Bool.{and_parts, not-true, or_left, or_right, eq-eqb, leb-true}
use Rattle.filter.specs.Filter.{Filter, Notice, matches}
use Rattle.cover.specs.Maximal.{among}
use Rattle.cover.proofs.Members.{among_ordered}
use Rattle.cover.proofs.Covering.{matches_self}
use Rattle.cover.proofs.Maximals.{maximal_antichain, maximal_same_members}
use Rattle.model.specs.Tree.{Tree, hangs, hop, has}
use Rattle.model.specs.Model.{Network, filters_of, to_announce, known, Command, post, step, end, Quiet, Subscriber, join, known_up_to, allowed, effect, tell}
use Rattle.model.specs.Promise.{KnownToAll, subscribed, is_leave, stays, times, wants, Throughout, behind}
use Rattle.model.specs.Promises.{reached, Second, Third, QuietKnown, SameTables, Headline, CalledOnce, KnownWays}
use Rattle.model.specs.Invariant.{one, Owners, Right}
use Rattle.model.proofs.Tree.{neighbours_edge}
use Rattle.model.proofs.Gather.{gathered_same}
use Rattle.model.proofs.Quiet as quietly
use Rattle.model.proofs.Copies.{one_most}
use Rattle.model.proofs.Owners.{at_most_one, takers_subscribed, subscribed_known, known_subscribed, step_subscribed, end_subscribed}
use Rattle.model.proofs.Right.{step_right, end_right, right, step_at_most}
use Rattle.model.proofs.Stays.{stays_known_to_all, stays_known_on_way, known_to_all_by_ways, known_on_every_way, known_called, quiet_known}
use Rattle.model.proofs.Throughout.{throughout_weaker}
use Rattle.model.proofs.Once.{takers_wants, after_post_just, once_by_notice}
use Rattle.model.proofs.Said.{said_to_end, wished_for}

-- one stay: a subscriber who stays is delivered a notice once more at most
pub once_from_now :
    (t : Tree) → hangs t ≡ true → (es : List Command) (s : Network) → Right t s → (T c n k : ℕ) → c ≤ length t → known n (s.subscribers c) ≡ true →
    stays c n es ≡ true → times k n s.deliveries ≤ T + one (has (s.arrived c) k) →
    times k n (end t s es).deliveries ≤ T + one (has ((end t s es).arrived c) k)
unfolding end stays
once_from_now t hung [] s h T c n k hc there st l = l
once_from_now t hung (d ∷ es) s h T c n k hc there st l =
    let (p, q) = and_parts (not (is_leave c n d)) (stays c n es) st in
    let (f, sub) = known_subscribed n (s.subscribers c) there in
    let sub' = step_subscribed t s c n f d (not-true (is_leave c n d) p) sub in
    once_from_now t hung es (step t s d) (step_right t hung s d h) T c n k hc (subscribed_known n f ((step t s d).subscribers c) sub') q
    (step_at_most t hung s h T k n c hc there d l)

known_push : (n : ℕ) (f : Filter) (rs : List Subscriber) → known n (rs ++ record { number = n; filter = f } ∷ []) ≡ true
unfolding known
known_push n f [] = or_left (eqb n n) false (eq-eqb n n refl)
known_push n f (r ∷ rs) = or_right (eqb r.number n) (known n (rs ++ record { number = n; filter = f } ∷ [])) (known_push n f rs)

-- a join that can be done brings the subscriber, and delivers nothing
joins :
    (t : Tree) (s : Network) (c n : ℕ) (f : Filter) → allowed t s (join c n f) ≡ true →
    (c ≤ length t) × (known n ((step t s (join c n f)).subscribers c) ≡ true) × ((step t s (join c n f)).deliveries ≡ s.deliveries)
unfolding step allowed effect tell
joins t s c n f h =
    let p = and_parts (leb c (length t)) (not (known_up_to n s.subscribers (length t))) h in
    (leb-true c (length t) p.0, rw (h, eq-eqb c c refl) (known_push n f (s.subscribers c)), rw h)

pub once_from_join :
    (t : Tree) → hangs t ≡ true → (s : Network) → Right t s → (es : List Command) (c n k : ℕ) (f : Filter) → allowed t s (join c n f) ≡ true →
    stays c n es ≡ true → times k n (end t s (join c n f ∷ es)).deliveries ≤ suc (times k n s.deliveries)
unfolding end
once_from_join t hung s h es c n k f can st =
    let (hc, there, same) = joins t s c n f can in
    let u = step t s (join c n f) in
    let q = ap (times k n) same in
    let r = once_from_now t hung es u (step_right t hung s (join c n f) h) (times k n s.deliveries) c n k hc there st (omega arith) in
    let m = one_most (has ((end t u es).arrived c) k) in
    omega arith

pub second : Second
unfolding to_announce
second t hung ds =
    record {
      wished_for = λ d. wished_for t hung ds (reached t ds) (right t hung ds) (said_to_end t hung ds) d;
      once_from_join = λ es c n k f can st. once_from_join t hung (reached t ds) (right t hung ds) es c n k f can st;
      once_a_stay = λ es c n k hc there st.
          let r =
          once_from_now t hung es (reached t ds) (right t hung ds) (times k n (reached t ds).deliveries) c n k hc there st (omega arith) in
          grind arith;
      antichain = λ b n hb beside f g p q cov.
          let e = sym (neighbours_edge t b n hb) ∙ beside in
          let a = (right t hung ds).tables.announces b n e in
          maximal_antichain f g _ (ap (among f) (sym a) ∙ p) (ap (among g) (sym a) ∙ q) cov;
      quiet_tables = λ quiet b n hb beside.
          quietly.quiet_tables t hung (reached t ds) (right t hung ds).tables quiet b n (sym (neighbours_edge t b n hb) ∙ beside);
    }

-- a subscriber who stays wants a notice at every moment just if its filter matches it
wants_subscribed :
    (t : Tree) (s : Network) → Owners t s.subscribers → (c n : ℕ) (f : Filter) (e : Notice) → c ≤ length t → subscribed n f (s.subscribers c) ≡ true →
    wants n e (s.subscribers c) ≡ matches f e
wants_subscribed t s h c n f e hc there =
    let l = at_most_one t s h n c hc in
    let p = takers_wants n e (s.subscribers c) l in
    let q = takers_subscribed n f e (s.subscribers c) there l in
    go (wants n e (s.subscribers c)) (matches f e) (sym p ∙ q)
  where
    go : (x y : Bool) → one x ≡ one y → x ≡ y
    go true true i = refl
    go true false i = grind arith
    go false true i = grind arith
    go false false i = refl

stays_throughout :
    (t : Tree) → hangs t ≡ true → (es : List Command) (s : Network) → Right t s → (c n : ℕ) (f : Filter) (e : Notice) → c ≤ length t →
    subscribed n f (s.subscribers c) ≡ true → stays c n es ≡ true →
    Throughout (λ u. (known n (u.subscribers c) ≡ true) × (wants n e (u.subscribers c) ≡ matches f e)) t s es
unfolding Throughout stays
stays_throughout t hung [] s h c n f e hc there st =
    (subscribed_known n f (s.subscribers c) there, wants_subscribed t s h.owners c n f e hc there)
stays_throughout t hung (d ∷ es) s h c n f e hc there st =
    let (p, q) = and_parts (not (is_leave c n d)) (stays c n es) st in (
      (subscribed_known n f (s.subscribers c) there, wants_subscribed t s h.owners c n f e hc there),
      stays_throughout t hung es (step t s d) (step_right t hung s d h) c n f e hc (step_subscribed t s c n f d (not-true (is_leave c n d) p) there) q,
    )

-- from any network that commands lead to
module _ (t : Tree) (hung : hangs t ≡ true) (s : Network) (h : Right t s) where
  pub third_never :
      (es : List Command) (b k c n : ℕ) (e : Notice) (f : Filter) → b ≤ length t → c ≤ length t → has s.posted k ≡ false →
      subscribed n f (s.subscribers c) ≡ true → stays c n es ≡ true → matches f e ≡ false → times k n (end t s (post b k e ∷ es)).deliveries ≡ 0
  unfolding stays is_leave
  third_never es b k c n e f hb hc new there st miss =
      let thr = stays_throughout t hung (post b k e ∷ es) s h c n f e hc there st in
      let r = after_post_just t hung c hc k e b hb s h new n (matches f e) es thr in
      r ∙ silent (has ((end t s (post b k e ∷ es)).arrived c) k) (matches f e) miss
    where
      silent : (x y : Bool) → y ≡ false → cond x (one y) 0 ≡ 0
      silent x y i = grind arith

  pub third_once :
      (es : List Command) (b k c n : ℕ) (e : Notice) (f : Filter) → b ≤ length t → c ≤ length t → has s.posted k ≡ false →
      subscribed n f (s.subscribers c) ≡ true → KnownToAll t s c f → stays c n es ≡ true → Quiet t (end t s (post b k e ∷ es)) →
      times k n (end t s (post b k e ∷ es)).deliveries ≡ cond (matches f e) 1 0
  unfolding stays is_leave
  third_once es b k c n e f hb hc new there all st quiet = go (matches f e) refl
    where
      go : (v : Bool) → matches f e ≡ v → times k n (end t s (post b k e ∷ es)).deliveries ≡ cond v 1 0
      go true m =
          let thr = stays_throughout t hung (post b k e ∷ es) s h c n f e hc there st in
          let called = known_called t hung c hc s f e b m (known_on_every_way t hung c hc s f all b hb) in
          once_by_notice t hung c hc k e b hb s h new n es called
          (throughout_weaker
          (λ u. (known n (u.subscribers c) ≡ true) × (wants n e (u.subscribers c) ≡ matches f e))
          (λ u. wants n e (u.subscribers c) ≡ true)
          (λ u w. w.1 ∙ m)
          t
          s
          (post b k e ∷ es)
          thr)
          quiet
      go false m = third_never es b k c n e f hb hc new there st m

pub third : Third
third t hung ds =
    let h = right t hung ds in
    record {
      exactly_once = third_once t hung (reached t ds) h;
      never = third_never t hung (reached t ds) h;
      stays_known = λ es c n f hc there all st. stays_known_to_all t hung c hc n f es (reached t ds) h there st all;
    }

pub quiet_known_stands : QuietKnown
quiet_known_stands t hung ds quiet c n f hc there self = quiet_known t hung c hc (reached t ds) (right t hung ds) quiet n f there self

pub headline : Headline
headline t hung ds es fs b k c n e f hb hc quiet there st new st2 quiet2 = go (matches f e) refl
  where
    s : Network
    s = end t (reached t ds) es

    h : Right t s
    h = end_right t hung es (reached t ds) (right t hung ds)

    still : subscribed n f (s.subscribers c) ≡ true
    still = end_subscribed t c n f es (reached t ds) st there

    go : (v : Bool) → matches f e ≡ v → times k n (end t s (post b k e ∷ fs)).deliveries ≡ cond v 1 0
    go true m =
        let known0 = quiet_known t hung c hc (reached t ds) (right t hung ds) quiet n f there (matches_self f e m) in
        let all = stays_known_to_all t hung c hc n f es (reached t ds) (right t hung ds) there st known0 in
        third_once t hung s h fs b k c n e f hb hc new still all st2 quiet2 ∙ rw m
    go false m = third_never t hung s h fs b k c n e f hb hc new still st2 m

pub same_tables : SameTables
unfolding behind
same_tables t hung ds es quiet quiet2 same b n hb beside =
    let e = sym (neighbours_edge t b n hb) ∙ beside in
    quietly.quiet_tables t hung (reached t ds) (right t hung ds).tables quiet b n e
    ∙ (maximal_same_members
    (behind t (reached t ds).subscribers b n)
    (behind t (reached t es).subscribers b n)
    (λ f.
    gathered_same
    f
    (λ c. eqb (hop t c b) n)
    (λ c. filters_of ((reached t ds).subscribers c))
    (λ c. filters_of ((reached t es).subscribers c))
    (suc (length t))
    (λ c l.
    sym (among_ordered f (filters_of ((reached t ds).subscribers c)))
    ∙ (ap (among f) (same c (omega arith)) ∙ among_ordered f (filters_of ((reached t es).subscribers c)))))
    ∙ sym (quietly.quiet_tables t hung (reached t es) (right t hung es).tables quiet2 b n e))

pub called_once : CalledOnce
called_once t hung ds es b k c n e hb hc new called thr quiet =
    once_by_notice t hung c hc k e b hb (reached t ds) (right t hung ds) new n es called thr quiet

pub known_ways : KnownWays
known_ways t hung ds =
    record {
      stays_known = λ es b c n f hb hc there k st. stays_known_on_way t hung c hc n f b hb es (reached t ds) (right t hung ds) there st k;
      from_all = λ c f hc all b hb. known_on_every_way t hung c hc (reached t ds) f all b hb;
      to_all = λ c f hc ways. known_to_all_by_ways t hung c hc (reached t ds) f ways;
    }
