-- A notice goes only where it is wished for.
use Rattle.std.proofs.Common.{◌≡◌, ℕ, ◌<◌, ◌≤◌, Bool, true, false, cond, not, ◌&&◌, eqb, List, [], ◌∷◌, ◌++◌, length, sym, refl, ap, ◌∙◌, arith}
use Rattle.std.proofs.lemmas.Bool.{eqb-true, eq-eqb, ne_eqb, and_parts}
use Rattle.filter.specs.Filter.{Notice}
use Rattle.cover.specs.Maximal.{any_matches}
use Rattle.cover.proofs.Maximals.{maximal_matches}
use Rattle.model.specs.Tree.{Tree, hangs, has, neighbours}
use Rattle.model.specs.Model.{Message, notice, Network, tell, arrive, passed_on, with_posted, taken, react, Command, carry, step}
use Rattle.model.specs.Promise.{copies, notice_of, behind}
use Rattle.model.specs.Promises.{reached, Wished}
use Rattle.model.specs.Invariant.{one, Right}
use Rattle.model.proofs.Tree.{edge_apart, neighbours_edge}
use Rattle.model.proofs.Cases.{by_cases, step_carries}
use Rattle.model.proofs.Tables.{taken_notice_learned}
use Rattle.model.proofs.Quiet.{quiet_tables}
use Rattle.model.proofs.Copies.{copies_append, copies_passed_on, tell_copies}
use Rattle.model.proofs.Notices.{taken_copies}
use Rattle.model.proofs.Right.{right}
use Rattle.model.proofs.Once.{step_post}
use Rattle.model.proofs.Said.{Said, said_to_end, notice_of_new, under_way}

module _ (t : Tree) (hung : hangs t ≡ true) where
  pub step_carry :
      (s : Network) (a b k : ℕ) (e : Notice) (ms : List Message) → a ≤ length t → has (neighbours t a) b ≡ true → s.channel a b ≡ notice k e ∷ ms →
      step t s (carry a b) ≡ arrive t b a k e (taken s a b (notice k e) ms)
  unfolding react
  step_carry s a b k e ms ha beside q = step_carries t s a b (notice k e) ms ha beside q

  -- an arriving notice goes on
  arrive_on :
      (b m k : ℕ) (e : Notice) (u : Network) (n : ℕ) → has (neighbours t b) n ≡ true →
      (arrive t b m k e u).channel b n ≡ u.channel b n ++ cond (not (eqb n m) && any_matches (u.learned b n) e) (notice k e ∷ []) []
  unfolding arrive passed_on
  arrive_on b m k e u n beside = rw (eq-eqb b b refl, beside)

  arrive_more :
      (b m j : ℕ) (e : Notice) (u : Network) (k x n : ℕ) → copies k (u.channel x n) < copies k ((arrive t b m j e u).channel x n) →
      (x ≡ b) × (j ≡ k) × (any_matches (u.learned b n) e ≡ true)
  unfolding arrive
  arrive_more b m j e u k x n l = go (eqb x b) refl (has (neighbours t b) n) l
    where
      go :
          (v : Bool) → eqb x b ≡ v → (w : Bool) →
          copies k (u.channel x n) < copies k (cond (v && w) (u.channel x n ++ passed_on m j e (u.learned b) n) (u.channel x n)) →
          (x ≡ b) × (j ≡ k) × (any_matches (u.learned b n) e ≡ true)
      go true i true l =
          let a = copies_append k (u.channel x n) (passed_on m j e (u.learned b) n) in
          let p = copies_passed_on k m j e (u.learned b) n in
          let r : (eqb j k && (not (eqb n m) && any_matches (u.learned b n) e)) ≡ true = sent (eqb j k && (not (eqb n m) && any_matches (u.learned b n) e)) (omega arith) in
          let (y, z) = and_parts (eqb j k) (not (eqb n m) && any_matches (u.learned b n) e) r in
          (eqb-true x b i, eqb-true j k y, (and_parts (not (eqb n m)) (any_matches (u.learned b n) e) z).1)
        where
          sent : (v : Bool) → 0 < one v → v ≡ true
          sent true h = refl
          sent false h = absurd (omega arith)
      go true i false l = absurd (omega arith)
      go false i w l = absurd (omega arith)

  goes_only :
      (ds : List Command) (s : Network) → Right t s → Said t ds s → (d : Command) (k x n : ℕ) → copies k (s.channel x n) < copies k ((step t s d).channel x n) →
      any_matches (s.learned x n) (notice_of t k (ds ++ d ∷ [])) ≡ true
  goes_only ds s r h d k x n =
      by_cases
      t
      s
      (λ d u. copies k (s.channel x n) < copies k (u.channel x n) → any_matches (s.learned x n) (notice_of t k (ds ++ d ∷ [])) ≡ true)
      (record {
        refused = λ d no l. absurd (omega arith);
        idle = λ a b q l. absurd (omega arith);
        joined = λ b m f hb new l. absurd (still b _ l);
        left = λ b m hb there l. absurd (still b _ l);
        posted = λ b j e hb new l.
            let (i, jk, m) = arrive_more b b j e (with_posted s j) k x n l in
            rw (i, ← jk, notice_of_new t hung ds s h b j e hb new) m;
        told = λ a b m ms ha f q tid l. absurd (fewer a b m ms q l);
        noticed = λ a b j e ms ha f q l. goes_on a b j e ms q l;
      })
      d
    where
      still : (b : ℕ) (u : Network) → copies k (u.channel x n) < copies k ((tell t b u).channel x n) → ⊥
      still b u l =
          let i = tell_copies t b u k x n in
          omega arith

      fewer :
          (a b : ℕ) (m : Message) (ms : List Message) → s.channel a b ≡ m ∷ ms → copies k (s.channel x n) < copies k ((tell t b (taken s a b m ms)).channel x n) → ⊥
      fewer a b m ms q l =
          let i = tell_copies t b (taken s a b m ms) k x n in
          let j = taken_copies s a b m ms k q x n in
          omega arith

      goes_on :
          (a b j : ℕ) (e : Notice) (ms : List Message) → s.channel a b ≡ notice j e ∷ ms →
          copies k (s.channel x n) < copies k ((arrive t b a j e (taken s a b (notice j e) ms)).channel x n) →
          any_matches (s.learned x n) (notice_of t k (ds ++ carry a b ∷ [])) ≡ true
      goes_on a b j e ms q l =
          let c = taken_copies s a b (notice j e) ms k q x n in
          let (i, jk, m) = arrive_more b a j e (taken s a b (notice j e) ms) k x n (omega arith) in
          let w = ap (λ table. any_matches (table b n) e) (taken_notice_learned s a b j e ms) in
          rw (i, under_way t hung ds s r h a b j e ms q (carry a b) k jk) (sym w ∙ m)

pub wished : Wished
wished t hung ds =
    record {
      posted = λ b k e hb new n beside.
          let r = arrive_on t hung b b k e (with_posted (reached t ds) k) n beside in
          let g = sym (neighbours_edge t b n hb) ∙ beside in
          let i = ne_eqb n b (λ j. edge_apart t hung b n g (sym j)) in
          ap (λ u. u.channel b n) (step_post t hung b hb k e b hb (reached t ds) (right t hung ds) new)
          ∙ (r ∙ ap (λ v. (reached t ds).channel b n ++ cond (not v && any_matches ((reached t ds).learned b n) e) (notice k e ∷ []) []) i);
      carried = λ a b k e ms ha beside q n beside2.
          let s = reached t ds in
          let g = sym (neighbours_edge t a b ha) ∙ beside in
          let r = arrive_on t hung b a k e (taken s a b (notice k e) ms) n beside2 in
          let i = ne_eqb b a (λ j. edge_apart t hung a b g (sym j)) in
          let w = taken_notice_learned s a b k e ms in
          ap (λ u. u.channel b n) (step_carry t hung s a b k e ms ha beside q)
          ∙ (r
          ∙ (ap (λ v. cond (v && eqb n b) ms (s.channel b n) ++ cond (not (eqb n a) && any_matches ((taken s a b (notice k e) ms).learned b n) e) (notice k e ∷ []) []) i
          ∙ ap (λ table. s.channel b n ++ cond (not (eqb n a) && any_matches (table b n) e) (notice k e ∷ []) []) w));
      only = goes_only t hung ds (reached t ds) (right t hung ds) (said_to_end t hung ds);
      quiet = λ quiet b n e hb beside.
          let q = quiet_tables t hung (reached t ds) (right t hung ds).tables quiet b n (sym (neighbours_edge t b n hb) ∙ beside) in
          ap (λ fs. any_matches fs e) q ∙ maximal_matches (behind t (reached t ds).subscribers b n) e;
    }
