-- Telling one neighbour after the other is telling all of them; and a network that refuses more is where the accepted commands lead to.
use Rattle.std.proofs.Common.{◌≡◌, ℕ, Bool, true, false, cond, not, ◌&&◌, ◌||◌, eqb, List, [], ◌∷◌, ◌++◌, sym, refl, ap, ◌∙◌}
use Rattle.std.proofs.lemmas.Bool.{eqb-true, eqb-false, and_parts, and_from, not-true}
use Rattle.model.specs.Tree.{Tree, has, neighbours, distinct}
use Rattle.model.specs.Model.{Network, at2, batch, announcement, tell, passed_on, arrive, Command, step, step_if, end, end_if}
use Rattle.model.specs.Promise.{in_turn, accepted, stays, is_leave}
use Rattle.model.specs.Promises.{Order, Refusals}
use Rattle.model.proofs.Tree.{neighbours_distinct}

pub in_turn_all :
    {A : Type 0} (f : ℕ → A → A) (b : ℕ) (ns : List ℕ) (table : ℕ → ℕ → A) → distinct ns ≡ true → (x y : ℕ) →
    in_turn f b ns table x y ≡ cond (eqb x b && has ns y) (f y (table x y)) (table x y)
unfolding in_turn has distinct
in_turn_all f b [] table d x y = go (eqb x b)
  where
    go : (v : Bool) → table x y ≡ cond (v && false) (f y (table x y)) (table x y)
    go true = refl
    go false = refl
in_turn_all {A} f b (n ∷ ns) table d x y =
    let (p, q) = and_parts (not (has ns n)) (distinct ns) d in
    in_turn_all f b ns (at2 table b n (f n (table b n))) q x y ∙ go (eqb x b) refl (eqb y n) refl (eqb n y) refl (not-true (has ns n) p)
  where
    go :
        (u : Bool) → eqb x b ≡ u → (v : Bool) → eqb y n ≡ v → (w : Bool) → eqb n y ≡ w → has ns n ≡ false →
        cond (u && has ns y) (f y (cond (u && v) (f n (table b n)) (table x y))) (cond (u && v) (f n (table b n)) (table x y))
        ≡ cond (u && (w || has ns y)) (f y (table x y)) (table x y)
    go false i v j w k gone = refl
    go true i true j true k gone =
        let z : has ns y ≡ false = ap (has ns) (eqb-true y n j) ∙ gone in
        let e : f n (table b n) ≡ f y (table x y) = rw (eqb-true x b i, eqb-true y n j) in
        ap (λ h. cond h (f y (f n (table b n))) (f n (table b n))) z ∙ e
    go true i true j false k gone = absurd (eqb-false n y k (sym (eqb-true y n j)))
    go true i false j true k gone = absurd (eqb-false y n j (sym (eqb-true n y k)))
    go true i false j false k gone = refl

pub order : Order
unfolding tell arrive
order t hung s b hb =
    let d = neighbours_distinct t b hung hb in
    record {
      told = λ x n. sym (in_turn_all (λ m ms. ms ++ batch (s.announced b m) (announcement t s b m)) b (neighbours t b) s.channel d x n);
      announced = λ x n. here x n ∙ sym (in_turn_all (λ m fs. announcement t s b m) b (neighbours t b) s.announced d x n);
      noticed = λ m k e x n. sym (in_turn_all (λ l ms. ms ++ passed_on m k e (s.learned b) l) b (neighbours t b) s.channel d x n);
    }
  where
    here :
        (x n : ℕ) →
        cond (eqb x b && has (neighbours t b) n) (announcement t s x n) (s.announced x n)
        ≡ cond (eqb x b && has (neighbours t b) n) (announcement t s b n) (s.announced x n)
    here x n = go (eqb x b) refl
      where
        go :
            (v : Bool) → eqb x b ≡ v →
            cond (v && has (neighbours t b) n) (announcement t s x n) (s.announced x n) ≡ cond (v && has (neighbours t b) n) (announcement t s b n) (s.announced x n)
        go true i = ap (λ y. cond (has (neighbours t b) n) (announcement t s y n) (s.announced x n)) (eqb-true x b i)
        go false i = refl

accepted_same : (may : Network → Command → Bool) (t : Tree) (ds : List Command) (s : Network) → end_if may t s ds ≡ end t s (accepted may t s ds)
unfolding end_if step_if end accepted
accepted_same may t [] s = refl
accepted_same may t (d ∷ ds) s = go (may s d) (accepted_same may t ds)
  where
    go :
        (v : Bool) → ((u : Network) → end_if may t u ds ≡ end t u (accepted may t u ds)) →
        end_if may t (cond v (step t s d) s) ds
        ≡ end t s (cond v (d ∷ accepted may t (cond v (step t s d) s) ds) (accepted may t (cond v (step t s d) s) ds))
    go true r = r (step t s d)
    go false r = r s

accepted_stays :
    (may : Network → Command → Bool) (t : Tree) (ds : List Command) (s : Network) (c n : ℕ) → stays c n ds ≡ true → stays c n (accepted may t s ds) ≡ true
unfolding stays accepted
accepted_stays may t [] s c n h = refl
accepted_stays may t (d ∷ ds) s c n h =
    let (p, q) = and_parts (not (is_leave c n d)) (stays c n ds) h in
    go (may s d) p (accepted_stays may t ds (step_if may t s d) c n q)
  where
    go :
        (v : Bool) → not (is_leave c n d) ≡ true → stays c n (accepted may t (step_if may t s d) ds) ≡ true →
        stays c n (cond v (d ∷ accepted may t (step_if may t s d) ds) (accepted may t (step_if may t s d) ds)) ≡ true
    go true p r = and_from (not (is_leave c n d)) (stays c n (accepted may t (step_if may t s d) ds)) p r
    go false p r = r

pub refusals : Refusals
refusals may t s ds = record { same = accepted_same may t ds s; staying = accepted_stays may t ds s }
