-- Tables fit: what was learned is bounded by the brokers behind, at every moment and in the middle of a batch.
use Rattle.std.proofs.Common.{◌≡◌, ℕ, suc, ◌+◌, ◌*◌, ◌≤◌, Bool, true, false, cond, ◌&&◌, ◌||◌, eqb, List, [], ◌∷◌, ◌++◌, length, sym, refl, ap, ◌∙◌, inl, inr, mul-le-mul_left, arith, length-append}
use Rattle.std.proofs.lemmas.Bool.{eqb-true, eq-eqb, le-leb, leb-true, or_cases, or_right}
use Rattle.filter.specs.Filter.{Filter, same}
use Rattle.cover.specs.Maximal.{among, put, maximal}
use Rattle.cover.specs.Sorted.{sorted}
use Rattle.cover.specs.Replay.{Between}
use Rattle.cover.proofs.Members.{among_put, among_without, among_left, among_right, among_parts}
use Rattle.cover.proofs.Order.{sorted_maximal, sorted_length}
use Rattle.cover.proofs.Maximals.{maximal_member}
use Rattle.cover.proofs.Changes.{between_length}
use Rattle.model.specs.Tree.{Tree, hangs, has, edge, neighbours}
use Rattle.model.specs.Model.{Subscriber, Message, add, cut, notice, after, Network, filters_of, from_others, to_announce, announcement, tell, with_subscribers, with_posted, taken, dropped, Command, step, end, empty}
use Rattle.model.specs.Promise.{lasts, brokers_behind, Throughout}
use Rattle.model.specs.Promises.{reached, Fit, Enough}
use Rattle.model.specs.Invariant.{Tables, short, bound, Fits, Few}
use Rattle.model.proofs.Tree.{edge_sym, edge_within, neighbours_edge}
use Rattle.model.proofs.Gather.{from_others_find, from_others_has}
use Rattle.model.proofs.Messages.{lasts_now, lasts_after, lasts_weaker}
use Rattle.model.proofs.Cases.{by_cases}
use Rattle.model.proofs.Tables.{TablesBut, subscribers_tables, taken_tables, step_tables, empty_tables}
use Rattle.model.proofs.Lasting.{taken_lasts, arrive_lasts, tell_lasts}
use Rattle.model.proofs.Behind.{length_from_others, others_le, others_times, behind_more, behind_fewer}
use Rattle.model.proofs.Right.{right}
use Rattle.model.proofs.Throughout.{throughout_now, throughout_end}

pub length_filters : (rs : List Subscriber) → length (filters_of rs) ≡ length rs
unfolding filters_of
length_filters [] = refl
length_filters (r ∷ rs) = ap suc (length_filters rs)

filters_push : (rs : List Subscriber) (r : Subscriber) (f : Filter) → among f (filters_of rs) ≡ true → among f (filters_of (rs ++ r ∷ [])) ≡ true
unfolding filters_of among
filters_push [] r f h = grind arith
filters_push (q ∷ rs) r f h =
    let i = filters_push rs r f in
    grind arith

filters_dropped : (n : ℕ) (rs : List Subscriber) (f : Filter) → among f (filters_of (dropped n rs)) ≡ true → among f (filters_of rs) ≡ true
unfolding filters_of among dropped
filters_dropped n [] f h = h
filters_dropped n (q ∷ rs) f h = go (eqb q.number n) h (filters_dropped n rs f)
  where
    go :
        (v : Bool) → among f (filters_of (cond v rs (q ∷ dropped n rs))) ≡ true → (among f (filters_of (dropped n rs)) ≡ true → among f (filters_of rs) ≡ true) →
        (same f q.filter || among f (filters_of rs)) ≡ true
    go true h i = or_right (same f q.filter) (among f (filters_of rs)) h
    go false h i = grind arith

-- what is to announce lies within what these lists hold
announced_within :
    (own : List Subscriber) (table : ℕ → List Filter) (mine : List Filter) (tables : ℕ → List Filter) (n : ℕ) (ns : List ℕ) →
    ((f : Filter) → among f (filters_of own) ≡ true → among f mine ≡ true) →
    ((m : ℕ) (f : Filter) → has ns m ≡ true → among f (table m) ≡ true → among f (tables m) ≡ true) → (f : Filter) →
    among f (to_announce own table ns n) ≡ true → among f (mine ++ from_others tables n ns) ≡ true
unfolding to_announce
announced_within own table mine tables n ns p q f h =
    elim (among_parts f (filters_of own) (from_others table n ns) (maximal_member f (filters_of own ++ from_others table n ns) h)) [
      | inl i ↦ among_left f mine (from_others tables n ns) (p f i)
      | inr i ↦
          (let (m, j, ne, k) = from_others_find f table n ns i in
          among_right f mine (from_others tables n ns) (from_others_has f tables n m ns j ne (q m f j k)))
    ]

-- a table on either side of a message
larger : Message → List Filter → List Filter
larger (add f) fs = put f fs
larger (cut f) fs = fs
larger (notice k e) fs = fs

larger_old : (m : Message) (fs : List Filter) (f : Filter) → among f fs ≡ true → among f (larger m fs) ≡ true
unfolding larger
larger_old (add g) fs f h = among_put f g fs ∙ or_right (same f g) (among f fs) h
larger_old (cut g) fs f h = h
larger_old (notice k e) fs f h = h

larger_new : (m : Message) (fs : List Filter) → sorted fs ≡ true → (f : Filter) → among f (after m fs) ≡ true → among f (larger m fs) ≡ true
unfolding larger after
larger_new (add g) fs s f h = h
larger_new (cut g) fs s f h =
    let i = among_without f g fs s in
    grind arith
larger_new (notice k e) fs s f h = h

larger_either : (P : List Filter → Bool) (m : Message) (fs : List Filter) → P fs ≡ true → P (after m fs) ≡ true → P (larger m fs) ≡ true
unfolding larger after
larger_either P (add g) fs p q = q
larger_either P (cut g) fs p q = p
larger_either P (notice k e) fs p q = p

pub empty_fits : (t : Tree) (R : ℕ) → Fits t R empty
unfolding Fits lasts
empty_fits t R b n e = le-leb 0 (bound t R b n) (omega arith)

module _ (t : Tree) (hung : hangs t ≡ true) (R : ℕ) where
  -- what n holds of its own and of its other neighbours fits between n and b
  pub room :
      (b n : ℕ) → edge t b n ≡ true → (tables : ℕ → List Filter) → ((m : ℕ) → edge t n m ≡ true → length (tables m) ≤ bound t R n m) →
      length (from_others tables b (neighbours t n)) + suc R ≤ bound t R b n
  room b n e tables each =
      let l = length_from_others tables b (neighbours t n) in
      let o =
      others_le (λ m. length (tables m)) (bound t R n) b (neighbours t n)
      (λ m i ne. each m (sym (neighbours_edge t n m (edge_within t b n hung e).1) ∙ i)) in
      let x = others_times (suc R) (brokers_behind t n) b (neighbours t n) in
      let y = behind_more t hung b n e in
      let z = mul-le-mul_left (suc R) y in
      omega arith

  tell_fits :
      (n : ℕ) (u : Network) → TablesBut t n u → Fits t R u → (own : List Filter) (tables : ℕ → List Filter) → length own ≤ suc R →
      ((m : ℕ) → edge t n m ≡ true → length (tables m) ≤ bound t R n m) →
      ((b : ℕ) (f : Filter) → edge t n b ≡ true → (among f (u.announced n b) || among f (announcement t u n b)) ≡ true →
      among f (own ++ from_others tables b (neighbours t n)) ≡ true) →
      Fits t R (tell t n u)
  unfolding Fits
  tell_fits n u h fits own tables most each within b x e =
      tell_lasts (short (bound t R b x)) x b t n u h (edge_sym t x b ∙ e) (fits b x e)
      (λ i gs w. rw i (here (rw i at e) gs (rw i at w)))
    where
      here : edge t b n ≡ true → (gs : List Filter) → Between (u.announced n b) (announcement t u n b) gs → short (bound t R b n) gs ≡ true
      here e gs w =
          let l = between_length (u.announced n b) (announcement t u n b) gs (own ++ from_others tables b (neighbours t n)) w (λ f i. within b f (edge_sym t n b ∙ e) i) in
          let a = length-append own (from_others tables b (neighbours t n)) in
          let r = room b n e tables each in
          le-leb (length gs) (bound t R b n) (omega arith)

  pub fits_now : (s : Network) → Fits t R s → (b n : ℕ) → edge t b n ≡ true → length (s.learned b n) ≤ bound t R b n
  unfolding Fits
  fits_now s fits b n e =
      leb-true (length (s.learned b n)) (bound t R b n) (lasts_now (short (bound t R b n)) (s.channel n b) (s.learned b n) (fits b n e))

  -- what is to announce to n is at least one short of the bound
  pub announcement_short :
      (s : Network) → Fits t R s → Few t R s → (b n : ℕ) → edge t b n ≡ true → suc (length (announcement t s b n)) ≤ bound t R n b
  unfolding to_announce Few
  announcement_short s fits few b n e =
      let own = filters_of (s.subscribers b) in
      let more = from_others (s.learned b) n (neighbours t b) in
      let l = sorted_length (maximal (own ++ more)) (own ++ more) (sorted_maximal (own ++ more)) (λ f h. maximal_member f (own ++ more) h) in
      let p = length-append own more in
      let q = length_filters (s.subscribers b) in
      let k = few b (edge_within t b n hung e).0 in
      let r = room n b (edge_sym t n b ∙ e) (s.learned b) (fits_now s fits b) in
      omega arith

  subscribers_fit :
      (s : Network) → Tables t s → Fits t R s → (b : ℕ) (rs big : List Subscriber) → length big ≤ R →
      ((f : Filter) → among f (filters_of (s.subscribers b)) ≡ true → among f (filters_of big) ≡ true) →
      ((f : Filter) → among f (filters_of rs) ≡ true → among f (filters_of big) ≡ true) → Fits t R (tell t b (with_subscribers s b rs))
  unfolding Fits
  subscribers_fit s h fits b rs big most old new =
      tell_fits b (with_subscribers s b rs) (subscribers_tables t b s rs h) fits (filters_of big) (s.learned b)
      (let l = length_filters big in
      omega arith)
      (fits_now s fits b)
      (λ a f e w.
      elim (or_cases (among f (s.announced b a)) (among f (announcement t (with_subscribers s b rs) b a)) w) [
        | inl i ↦
            announced_within (s.subscribers b) (s.learned b) (filters_of big) (s.learned b) a (neighbours t b) old (λ m g j k. k) f
            (ap (among f) (sym (h.announces b a e)) ∙ i)
        | inr i ↦
            announced_within rs (s.learned b) (filters_of big) (s.learned b) a (neighbours t b) new (λ m g j k. k) f
            (ap (λ v. among f (to_announce (cond v rs (s.subscribers b)) (s.learned b) (neighbours t b) a)) (sym (eq-eqb b b refl)) ∙ i)
      ])

  taken_fit :
      (s : Network) → Tables t s → Fits t R s → Few t R s → (a b : ℕ) (m : Message) (ms : List Message) → edge t a b ≡ true → s.channel a b ≡ m ∷ ms →
      Fits t R (tell t b (taken s a b m ms))
  unfolding Fits Few
  taken_fit s h fits few a b m ms e q =
      tell_fits b u (taken_tables t s a b m ms e q h) (λ x n i. taken_lasts (short (bound t R x n)) n x s a b m ms q (fits x n i))
      (filters_of (s.subscribers b))
      tables
      (let l = length_filters (s.subscribers b) in
      let k = few b (edge_within t a b hung e).1 in
      omega arith)
      each
      (λ x f g w.
      elim (or_cases (among f (s.announced b x)) (among f (announcement t u b x)) w) [
        | inl i ↦
            announced_within (s.subscribers b) (s.learned b) (filters_of (s.subscribers b)) tables x (neighbours t b) (λ g j. j) (λ l g j k. before l g k) f
            (ap (among f) (sym (h.announces b x g)) ∙ i)
        | inr i ↦
            announced_within (s.subscribers b) (u.learned b) (filters_of (s.subscribers b)) tables x (neighbours t b) (λ g j. j) (λ l g j k. now l g k) f i
      ])
    where
      u : Network
      u = taken s a b m ms

      tables : ℕ → List Filter
      tables l = cond (eqb l a) (larger m (s.learned b a)) (s.learned b l)

      both : lasts (short (bound t R b a)) (m ∷ ms) (s.learned b a) ≡ true
      both = ap (λ x. lasts (short (bound t R b a)) x (s.learned b a)) (sym q) ∙ fits b a (edge_sym t b a ∙ e)

      each : (l : ℕ) → edge t b l ≡ true → length (tables l) ≤ bound t R b l
      each l i = go (eqb l a) refl
        where
          go : (v : Bool) → eqb l a ≡ v → length (cond v (larger m (s.learned b a)) (s.learned b l)) ≤ bound t R b l
          go true j =
              let p = lasts_now (short (bound t R b a)) (m ∷ ms) (s.learned b a) both in
              let r = lasts_now (short (bound t R b a)) ms (after m (s.learned b a)) (lasts_after (short (bound t R b a)) m ms (s.learned b a) both) in
              rw (eqb-true l a j) (leb-true (length (larger m (s.learned b a))) (bound t R b a) (larger_either (short (bound t R b a)) m (s.learned b a) p r))
          go false j = fits_now s fits b l i

      before : (l : ℕ) (g : Filter) → among g (s.learned b l) ≡ true → among g (tables l) ≡ true
      before l g k = go (eqb l a) refl
        where
          go : (v : Bool) → eqb l a ≡ v → among g (cond v (larger m (s.learned b a)) (s.learned b l)) ≡ true
          go true j = larger_old m (s.learned b a) g (ap (λ x. among g (s.learned b x)) (sym (eqb-true l a j)) ∙ k)
          go false j = k

      now : (l : ℕ) (g : Filter) → among g (u.learned b l) ≡ true → among g (tables l) ≡ true
      now l g k =
          go (eqb l a) refl (ap (λ v. among g (cond (v && eqb l a) (after m (s.learned b a)) (s.learned b l))) (sym (eq-eqb b b refl)) ∙ k)
        where
          go :
              (v : Bool) → eqb l a ≡ v → among g (cond v (after m (s.learned b a)) (s.learned b l)) ≡ true →
              among g (cond v (larger m (s.learned b a)) (s.learned b l)) ≡ true
          go true j o = larger_new m (s.learned b a) (h.learned_sorted b a) g o
          go false j o = o

  pub step_fits : (s : Network) → Tables t s → Fits t R s → Few t R s → (d : Command) → Few t R (step t s d) → Fits t R (step t s d)
  unfolding Fits Few tell
  step_fits s h fits few d =
      by_cases
      t
      s
      (λ d u. Few t R u → Fits t R u)
      (record {
        refused = λ d r k. fits;
        idle = λ a b q k. fits;
        joined = λ b n f hb new k.
            let rs = s.subscribers b ++ record { number = n; filter = f } ∷ [] in
            subscribers_fit s h fits b rs rs
            (let l = k b hb in
            let i : length (cond (eqb b b) rs (s.subscribers b)) ≡ length rs = ap (λ v. length (cond v rs (s.subscribers b))) (eq-eqb b b refl) in
            omega arith)
            (filters_push (s.subscribers b) (record { number = n; filter = f }))
            (λ g i. i);
        left = λ b n hb there k.
            subscribers_fit s h fits b (dropped n (s.subscribers b)) (s.subscribers b) (few b hb) (λ g i. i) (filters_dropped n (s.subscribers b));
        posted = λ b j e hb new k x n i. arrive_lasts (short (bound t R x n)) n x t b b j e (with_posted s j) (fits x n i);
        told = λ a b m ms ha e q tid k. taken_fit s h fits few a b m ms e q;
        noticed = λ a b j e ms ha f q k x n i.
            arrive_lasts (short (bound t R x n)) n x t b a j e (taken s a b (notice j e) ms) (taken_lasts (short (bound t R x n)) n x s a b (notice j e) ms q (fits x n i));
      })
      d

  pub end_fits : (ds : List Command) (s : Network) → Tables t s → Fits t R s → Throughout (Few t R) t s ds → Fits t R (end t s ds)
  unfolding end Throughout
  end_fits [] s h fits thr = fits
  end_fits (d ∷ ds) s h fits thr =
      end_fits ds (step t s d) (step_tables t hung s d h) (step_fits s h fits thr.0 d (throughout_now (Few t R) t (step t s d) ds thr.1)) thr.1

pub fit : Fit
unfolding Fits Few
fit t hung R ds few =
    record {
      learned = λ b n hb beside. fits b n (sym (neighbours_edge t b n hb) ∙ beside);
      announced = λ b n hb beside. short_enough b n (sym (neighbours_edge t b n hb) ∙ beside);
    }
  where
    fits : Fits t R (reached t ds)
    fits = end_fits t hung R ds empty (empty_tables t) (empty_fits t R) few

    short_enough : (b n : ℕ) → edge t b n ≡ true → suc (length ((reached t ds).announced b n)) ≤ suc R * brokers_behind t n b
    short_enough b n e =
        let a = ap length ((right t hung ds).tables.announces b n e) in
        let l = announcement_short t hung R (reached t ds) fits (throughout_end (Few t R) t empty ds few) b n e in
        omega arith

pub enough : Enough
enough t hung small ds few =
    record {
      learned = λ b n hb beside.
          lasts_weaker
          (short (65 * brokers_behind t b n))
          (short 1024)
          (λ fs h.
          let l = leb-true (length fs) (65 * brokers_behind t b n) h in
          let f = behind_fewer t hung b n (sym (neighbours_edge t b n hb) ∙ beside) in
          le-leb (length fs) 1024 (omega arith))
          ((reached t ds).channel n b)
          ((reached t ds).learned b n)
          ((fit t hung 64 ds few).learned b n hb beside);
      announced = λ b n hb beside.
          let l = (fit t hung 64 ds few).announced b n hb beside in
          let f = behind_fewer t hung n b (edge_sym t n b ∙ (sym (neighbours_edge t b n hb) ∙ beside)) in
          omega arith;
    }
