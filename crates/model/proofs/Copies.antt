-- The copies of a notice under way: ahead of every broker there is one at most, and none any more once the notice has arrived there.
use Rattle.std.proofs.Common.{◌≡◌, ℕ, suc, ◌+◌, ◌≤◌, Bool, true, false, cond, not, ◌&&◌, ◌||◌, eqb, ◌⊎◌, List, [], ◌∷◌, ◌++◌, length, sym, refl, ap, ◌∙◌, inl, inr, arith}
use Rattle.std.proofs.lemmas.Bool.{eqb-true, eqb-false, eq-eqb, ne_eqb, cases_eq}
use Rattle.filter.specs.Filter.{Filter, Notice}
use Rattle.cover.specs.Maximal.{any_matches, minus}
use Rattle.model.specs.Tree.{Tree, hangs, hop, has, edge, neighbours}
use Rattle.model.specs.Model.{Message, notice, Network, adds, cuts, batch, announcement, at1, tell, arrive, passed_on, with_posted, taken}
use Rattle.model.specs.Promise.{copy, copies}
use Rattle.model.specs.Invariant.{ahead, one, load}
use Rattle.model.proofs.Tree.{hop_self, hop_edge, hop_one_way, edge_within, edge_irrefl, edge_apart, neighbours_edge}
use Rattle.model.proofs.Sums.{total_same, total_but}
use Rattle.model.proofs.Tables.{taken_notice_learned}

pub one_most : (v : Bool) → one v ≤ 1
one_most true = omega arith
one_most false = omega arith

pub copies_append : (k : ℕ) (ms ns : List Message) → copies k (ms ++ ns) ≡ copies k ms + copies k ns
unfolding copies
copies_append k [] ns = omega arith
copies_append k (m ∷ ms) ns =
    let r = copies_append k ms ns in
    omega arith

pub copies_adds : (k : ℕ) (fs : List Filter) → copies k (adds fs) ≡ 0
unfolding copies copy adds
copies_adds k [] = refl
copies_adds k (f ∷ fs) =
    let r = copies_adds k fs in
    omega arith

pub copies_cuts : (k : ℕ) (fs : List Filter) → copies k (cuts fs) ≡ 0
unfolding copies copy cuts
copies_cuts k [] = refl
copies_cuts k (f ∷ fs) =
    let r = copies_cuts k fs in
    omega arith

pub copies_batch : (k : ℕ) (old new : List Filter) → copies k (batch old new) ≡ 0
unfolding batch
copies_batch k old new =
    let a = copies_append k (adds (minus new old)) (cuts (minus old new)) in
    let p = copies_adds k (minus new old) in
    let q = copies_cuts k (minus old new) in
    omega arith

pub copies_passed_on :
    (k m j : ℕ) (e : Notice) (table : ℕ → List Filter) (n : ℕ) →
    copies k (passed_on m j e table n) ≡ one (eqb j k && (not (eqb n m) && any_matches (table n) e))
unfolding passed_on copies copy
copies_passed_on k m j e table n = go (not (eqb n m) && any_matches (table n) e)
  where
    go : (v : Bool) → copies k (cond v (notice j e ∷ []) []) ≡ one (eqb j k && v)
    go true = grind arith
    go false = grind arith

-- telling sends no copy
pub tell_copies : (t : Tree) (b : ℕ) (u : Network) (k x n : ℕ) → copies k ((tell t b u).channel x n) ≡ copies k (u.channel x n)
unfolding tell
tell_copies t b u k x n = go (eqb x b && has (neighbours t b) n)
  where
    go : (v : Bool) → copies k (cond v (u.channel x n ++ batch (u.announced b n) (announcement t u b n)) (u.channel x n)) ≡ copies k (u.channel x n)
    go true =
        let a = copies_append k (u.channel x n) (batch (u.announced b n) (announcement t u b n)) in
        let p = copies_batch k (u.announced b n) (announcement t u b n) in
        omega arith
    go false = refl

pub tell_load : (t : Tree) (b : ℕ) (u : Network) (k c : ℕ) → load t (tell t b u) k c ≡ load t u k c
unfolding load ahead tell
tell_load t b u k c = ap (λ x. x + one (has (u.arrived c) k)) (total_same _ _ (suc (length t)) (λ a l. tell_copies t b u k a (hop t c a)))

module _ (t : Tree) (hung : hangs t ≡ true) where
  -- a broker but c has a next hop towards c beside it
  has_onward : (b c : ℕ) → b ≤ length t → c ≤ length t → (eqb b b && has (neighbours t b) (hop t c b)) ≡ not (eqb b c)
  has_onward b c hb hc =
      rw (eq-eqb b b refl, neighbours_edge t b (hop t c b) hb) (go (cases_eq b c))
    where
      go : (b ≡ c) ⊎ (b ≡ c → ⊥) → edge t b (hop t c b) ≡ not (eqb b c)
      go (inl i) = rw (i, hop_self t c, eq-eqb c c refl) (edge_irrefl t c hung)
      go (inr ne) = hop_edge t c b hung hc hb ne ∙ sym (ap not (ne_eqb b c ne))

  -- what an arriving notice puts on the channels that point towards c: one copy at most, on the one from where it arrives
  pub arrive_elsewhere :
      (b m j : ℕ) (e : Notice) (u : Network) (k a n : ℕ) → (a ≡ b → ⊥) → copies k ((arrive t b m j e u).channel a n) ≡ copies k (u.channel a n)
  unfolding arrive
  arrive_elsewhere b m j e u k a n ne = go (eqb a b) (ne_eqb a b ne)
    where
      go : (v : Bool) → v ≡ false → copies k (cond (v && has (neighbours t b) n) (u.channel a n ++ passed_on m j e (u.learned b) n) (u.channel a n)) ≡ copies k (u.channel a n)
      go true z = grind arith
      go false z = refl

  pub arrive_here :
      (b m j : ℕ) (e : Notice) (u : Network) (k c : ℕ) → b ≤ length t → c ≤ length t →
      copies k ((arrive t b m j e u).channel b (hop t c b))
      ≡ copies k (u.channel b (hop t c b)) + one (not (eqb b c) && (eqb j k && (not (eqb (hop t c b) m) && any_matches (u.learned b (hop t c b)) e)))
  unfolding arrive
  arrive_here b m j e u k c hb hc =
      there (eqb b b && has (neighbours t b) (hop t c b)) ∙ ap (λ v. copies k (u.channel b (hop t c b)) + one (v && sends)) (has_onward b c hb hc)
    where
      sends : Bool
      sends = eqb j k && (not (eqb (hop t c b) m) && any_matches (u.learned b (hop t c b)) e)

      there :
          (v : Bool) →
          copies k (cond v (u.channel b (hop t c b) ++ passed_on m j e (u.learned b) (hop t c b)) (u.channel b (hop t c b)))
          ≡ copies k (u.channel b (hop t c b)) + one (v && sends)
      there true =
          copies_append k (u.channel b (hop t c b)) (passed_on m j e (u.learned b) (hop t c b))
          ∙ ap (λ x. copies k (u.channel b (hop t c b)) + x) (copies_passed_on k m j e (u.learned b) (hop t c b))
      there false = omega arith

  pub arrive_ahead :
      (b m j : ℕ) (e : Notice) (u : Network) (k c : ℕ) → b ≤ length t → c ≤ length t →
      ahead t (arrive t b m j e u).channel k c
      ≡ ahead t u.channel k c + one (not (eqb b c) && (eqb j k && (not (eqb (hop t c b) m) && any_matches (u.learned b (hop t c b)) e)))
  unfolding ahead
  arrive_ahead b m j e u k c hb hc =
      let d =
      total_but
      (λ a. copies k ((arrive t b m j e u).channel a (hop t c a)))
      (λ a. copies k (u.channel a (hop t c a)))
      (suc (length t))
      b
      (omega arith)
      (λ a l ne. arrive_elsewhere b m j e u k a (hop t c a) ne) in
      let g = arrive_here b m j e u k c hb hc in
      omega arith

  -- what taking a message takes from ahead of c
  pub taken_ahead :
      (s : Network) (a b : ℕ) (m : Message) (ms : List Message) (k c : ℕ) → a ≤ length t → s.channel a b ≡ m ∷ ms →
      ahead t s.channel k c ≡ ahead t (taken s a b m ms).channel k c + cond (eqb (hop t c a) b) (copy k m) 0
  unfolding ahead copies
  taken_ahead s a b m ms k c ha q =
      let d = total_but new old (suc (length t)) a (omega arith) (λ i l ne. elsewhere i (eqb i a) (ne_eqb i a ne)) in
      let g : old a ≡ new a + cond (eqb (hop t c a) b) (copy k m) 0 = rw (eq-eqb a a refl) (there (eqb (hop t c a) b) refl) in
      omega arith
    where
      old : ℕ → ℕ
      old x = copies k (s.channel x (hop t c x))

      new : ℕ → ℕ
      new x = copies k (cond (eqb x a && eqb (hop t c x) b) ms (s.channel x (hop t c x)))

      elsewhere : (i : ℕ) (v : Bool) → v ≡ false → copies k (cond (v && eqb (hop t c i) b) ms (s.channel i (hop t c i))) ≡ old i
      elsewhere i true z = grind arith
      elsewhere i false z = refl

      there : (v : Bool) → eqb (hop t c a) b ≡ v → old a ≡ copies k (cond v ms (s.channel a (hop t c a))) + cond v (copy k m) 0
      there true i =
          let p : old a ≡ copies k (m ∷ ms) = ap (copies k) (ap (s.channel a) (eqb-true (hop t c a) b i) ∙ q) in
          omega arith
      there false i = omega arith

pub arrived_has : (f : ℕ → List ℕ) (b j c k : ℕ) → has (at1 f b (j ∷ f b) c) k ≡ ((eqb b c && eqb j k) || has (f c) k)
unfolding has
arrived_has f b j c k = go (eqb c b) refl (eqb b c) refl
  where
    go : (v : Bool) → eqb c b ≡ v → (w : Bool) → eqb b c ≡ w → has (cond v (j ∷ f b) (f c)) k ≡ ((w && eqb j k) || has (f c) k)
    go true p true q = rw (eqb-true c b p) refl
    go true p false q = absurd (eqb-false b c q (sym (eqb-true c b p)))
    go false p true q = absurd (eqb-false c b p (sym (eqb-true b c q)))
    go false p false q = refl

-- a copy that goes on or has arrived is counted as before
counted :
    (before taken after : ℕ) (v w x y z h : Bool) → before ≡ taken + cond v (one y) 0 → after ≡ taken + one (not x && (y && (not w && z))) →
    v ≡ not w → (x ≡ true → v ≡ true) → before + one h ≤ 1 → (after + one ((x && y) || h)) + one (((y && v) && not x) && not z) ≡ before + one h
counted before taken after v w x y z h p q r i l = grind arith

counted_new :
    (before after : ℕ) (x y w z h : Bool) → after ≡ before + one (not x && (y && (not w && z))) → y ≡ true → (x ≡ false → w ≡ false) →
    before + one h ≡ 0 → after + one ((x && y) || h) ≡ one (x || z)
counted_new before after x y w z h p q r i = grind arith

counted_others :
    (before after : ℕ) (x y z h : Bool) → after ≡ before + one (not x && (y && z)) → y ≡ false → after + one ((x && y) || h) ≡ before + one h
counted_others before after x y z h p q = grind arith

-- a notice taken from a arrives at b, and the copy ahead of c is lost there
unfoldable pub lost : Tree → Network → (a b j : ℕ) → Notice → (k c : ℕ) → Bool
lost t s a b j e k c = ((eqb j k && eqb (hop t c a) b) && not (eqb b c)) && not (any_matches (s.learned b (hop t c b)) e)

module _ (t : Tree) (hung : hangs t ≡ true) where
  pub noticed_load :
      (s : Network) (a b j : ℕ) (e : Notice) (ms : List Message) → a ≤ length t → edge t a b ≡ true → s.channel a b ≡ notice j e ∷ ms →
      (k c : ℕ) → c ≤ length t → load t s k c ≤ 1 →
      load t (arrive t b a j e (taken s a b (notice j e) ms)) k c + one (lost t s a b j e k c) ≡ load t s k c
  unfolding load lost arrive copy
  noticed_load s a b j e ms ha f q k c hc most =
      let u = taken s a b (notice j e) ms in
      let hb = (edge_within t a b hung f).1 in
      let p = taken_ahead t hung s a b (notice j e) ms k c ha q in
      let r = arrive_ahead t hung b a j e u k c hb hc in
      let l = ap (λ w. any_matches (w b (hop t c b)) e) (taken_notice_learned s a b j e ms) in
      let r' = r ∙ ap (λ z. ahead t u.channel k c + one (not (eqb b c) && (eqb j k && (not (eqb (hop t c b) a) && z)))) l in
      let o = hop_one_way t c a b hung hc f in
      rw
      (arrived_has s.arrived b j c k)
      (counted
      (ahead t s.channel k c)
      (ahead t u.channel k c)
      (ahead t (arrive t b a j e u).channel k c)
      (eqb (hop t c a) b)
      (eqb (hop t c b) a)
      (eqb b c)
      (eqb j k)
      (any_matches (s.learned b (hop t c b)) e)
      (has (s.arrived c) k)
      p
      r'
      o
      (λ i. o ∙ ap not (ne_eqb (hop t c b) a (λ g. edge_apart t hung a b f (sym g ∙ (ap (hop t c) (eqb-true b c i) ∙ (hop_self t c ∙ sym (eqb-true b c i)))))))
      most)

  -- the notice has just been posted: it has arrived at c, or a copy is ahead of c if it matches what was learned from there
  pub posted_load :
      (s : Network) (b k : ℕ) (e : Notice) (c : ℕ) → b ≤ length t → c ≤ length t → load t s k c ≡ 0 →
      load t (arrive t b b k e (with_posted s k)) k c ≡ one (eqb b c || any_matches (s.learned b (hop t c b)) e)
  unfolding load arrive
  posted_load s b k e c hb hc h =
      let r = arrive_ahead t hung b b k e (with_posted s k) k c hb hc in
      rw
      (arrived_has s.arrived b k c k)
      (counted_new
      (ahead t s.channel k c)
      (ahead t (arrive t b b k e (with_posted s k)).channel k c)
      (eqb b c)
      (eqb k k)
      (eqb (hop t c b) b)
      (any_matches (s.learned b (hop t c b)) e)
      (has (s.arrived c) k)
      r
      (eq-eqb k k refl)
      (λ x. ne_eqb (hop t c b) b (λ i. edge_apart t hung b (hop t c b) (hop_edge t c b hung hc hb (eqb-false b c x)) (sym i)))
      h)

  pub posted_others :
      (s : Network) (b j : ℕ) (e : Notice) (k c : ℕ) → b ≤ length t → c ≤ length t → eqb j k ≡ false → load t (arrive t b b j e (with_posted s j)) k c ≡ load t s k c
  unfolding load arrive
  posted_others s b j e k c hb hc y =
      let r = arrive_ahead t hung b b j e (with_posted s j) k c hb hc in
      rw
      (arrived_has s.arrived b j c k)
      (counted_others
      (ahead t s.channel k c)
      (ahead t (arrive t b b j e (with_posted s j)).channel k c)
      (eqb b c)
      (eqb j k)
      (not (eqb (hop t c b) b) && any_matches (s.learned b (hop t c b)) e)
      (has (s.arrived c) k)
      r
      y)
