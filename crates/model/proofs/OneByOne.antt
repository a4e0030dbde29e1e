-- Telling the neighbours one at a time, in their order, comes to telling all of them; and so does sending a notice on.
use Rattle.std.proofs.Common.{◌≡◌, ℕ, zero, suc, ◌<◌, ◌≤◌, Bool, true, false, cond, not, ◌&&◌, ◌||◌, eqb, List, [], ◌∷◌, ◌++◌, length, get_or, take, sym, refl, ap, ◌∙◌, arith, take-suc}
use mathlib.Core.Path.{fun_ext}
use lib.Seq.{take-length}
use Rattle.std.proofs.lemmas.Bool.Decides.{nat_tests}
use Rattle.std.proofs.lemmas.Bool.{or_parts, or_from, or_left, or_right, and_parts, not-true, eqb-true, eq-eqb, ne_eqb}
use Rattle.std.proofs.lemmas.List.{append-nil}
use Rattle.filter.specs.Filter.{Filter, Notice}
use Rattle.cover.specs.Maximal.{any_matches}
use Rattle.broker.specs.Forwarding.{wanting}
use Rattle.model.specs.Tree.{Tree, hangs, has, neighbours, distinct}
use Rattle.model.specs.Model.{Message, notice, Network, at2, batch, announcement, tell, send, passed_on}
use Rattle.model.specs.Promise.{in_turn}
use Rattle.model.specs.Turn.{with_told, tell_one, told_to, send_one, sent_to}
use Rattle.model.proofs.Tree.{has_append, has_apart, distinct_push, neighbours_distinct}
use Rattle.model.proofs.Turns.{in_turn_all, order}

-- a place that is not in the list is left as it was
pub in_turn_skips :
    {A : Type 0} (f : ℕ → A → A) (b : ℕ) (ns : List ℕ) (table : ℕ → ℕ → A) (x n : ℕ) → has ns n ≡ false → in_turn f b ns table x n ≡ table x n
unfolding in_turn has
in_turn_skips f b [] table x n h = refl
in_turn_skips f b (m ∷ ns) table x n h =
    let (p, q) = or_parts (eqb m n) (has ns n) h in
    in_turn_skips f b ns (at2 table b m (f m (table b m))) x n q ∙ go (eqb x b) (eqb n m) (grind (arith, nat_tests))
  where
    go : (v w : Bool) → w ≡ false → cond (v && w) (f m (table b m)) (table x n) ≡ table x n
    go true true z = grind arith
    go true false z = refl
    go false w z = refl

-- one place more
pub in_turn_push :
    {A : Type 0} (f : ℕ → A → A) (b : ℕ) (ns : List ℕ) (n : ℕ) (table : ℕ → ℕ → A) →
    in_turn f b (ns ++ n ∷ []) table ≡ at2 (in_turn f b ns table) b n (f n (in_turn f b ns table b n))
unfolding in_turn
in_turn_push f b [] n table = refl
in_turn_push f b (m ∷ ns) n table = in_turn_push f b ns n (at2 table b m (f m (table b m)))

same_told :
    (s : Network) (as1 as2 : ℕ → ℕ → List Filter) (cs1 cs2 : ℕ → ℕ → List Message) → as1 ≡ as2 → cs1 ≡ cs2 → with_told s as1 cs1 ≡ with_told s as2 cs2
same_told s as1 as2 cs1 cs2 p q = λ i. with_told s (p i) (q i)

pub told_none : (t : Tree) (b : ℕ) (s : Network) → told_to t b [] s ≡ s
unfolding in_turn
told_none t b s = refl

pub told_channel : (t : Tree) (b : ℕ) (ns : List ℕ) (n : ℕ) (s : Network) → has ns n ≡ false → (told_to t b ns s).channel b n ≡ s.channel b n
told_channel t b ns n s h = in_turn_skips _ b ns s.channel b n h

pub told_announced : (t : Tree) (b : ℕ) (ns : List ℕ) (n : ℕ) (s : Network) → has ns n ≡ false → (told_to t b ns s).announced b n ≡ s.announced b n
told_announced t b ns n s h = in_turn_skips _ b ns s.announced b n h

pub told_more :
    (t : Tree) (b : ℕ) (ns : List ℕ) (n : ℕ) (s : Network) → has ns n ≡ false → told_to t b (ns ++ n ∷ []) s ≡ tell_one t b n (told_to t b ns s)
told_more t b ns n s h =
    let u = told_to t b ns s in
    same_told
    s
    _
    _
    _
    _
    (in_turn_push _ b ns n s.announced)
    (in_turn_push _ b ns n s.channel
    ∙ ap (λ old. at2 u.channel b n (u.channel b n ++ batch old (announcement t s b n))) (sym (told_announced t b ns n s h)))

pub told_all : (t : Tree) → hangs t ≡ true → (b : ℕ) → b ≤ length t → (s : Network) → told_to t b (neighbours t b) s ≡ tell t b s
unfolding tell
told_all t hung b hb s =
    let o = order t hung s b hb in
    same_told s _ _ _ _ (fun_ext (λ x. fun_ext (λ n. sym (o.announced x n)))) (fun_ext (λ x. fun_ext (λ n. sym (o.told x n))))

pub sent_none : (b k : ℕ) (e : Notice) (s : Network) → sent_to b k e [] s ≡ s
unfolding in_turn
sent_none b k e s = refl

pub sent_more : (b k : ℕ) (e : Notice) (ns : List ℕ) (n : ℕ) (s : Network) → sent_to b k e (ns ++ n ∷ []) s ≡ send_one b n k e (sent_to b k e ns s)
sent_more b k e ns n s = ap (with_told s s.announced) (in_turn_push _ b ns n s.channel)

pub sent_channel :
    (b k : ℕ) (e : Notice) (ns : List ℕ) (n : ℕ) (s : Network) → has ns n ≡ false → (sent_to b k e ns s).channel b n ≡ s.channel b n
sent_channel b k e ns n s h = in_turn_skips _ b ns s.channel b n h

-- what stands at a place of the list is a member
pub getD_has : (ns : List ℕ) (j : ℕ) → j < length ns → has ns (get_or ns j 0) ≡ true
unfolding has
getD_has [] j l = absurd (omega arith)
getD_has (n ∷ ns) zero l = or_left (eqb n n) (has ns n) (eq-eqb n n refl)
getD_has (n ∷ ns) (suc j) l = or_right (eqb n (get_or ns j 0)) (has ns (get_or ns j 0)) (getD_has ns j (omega arith))

-- .. and does not stand before
pub distinct_take : (ns : List ℕ) (j : ℕ) → distinct ns ≡ true → j < length ns → has (take j ns) (get_or ns j 0) ≡ false
unfolding distinct has
distinct_take [] j d l = absurd (omega arith)
distinct_take (n ∷ ns) zero d l = refl
distinct_take (n ∷ ns) (suc j) d l =
    let (p, q) = and_parts (not (has ns n)) (distinct ns) d in
    or_from
    (eqb n (get_or ns j 0))
    (has (take j ns) (get_or ns j 0))
    (ne_eqb n (get_or ns j 0) (has_apart ns n (get_or ns j 0) (getD_has ns j (omega arith)) (not-true (has ns n) p)))
    (distinct_take ns j q (omega arith))

-- whether n is among the first k neighbours and one more, and among those of them that a test picks
picked :
    (ns ws : List ℕ) (k n : ℕ) (v : Bool) → k < length ns →
    (has (take (suc k) ns) n ≡ (has (take k ns) n || eqb (get_or ns k 0) n))
    × (has (ws ++ cond v (get_or ns k 0 ∷ []) []) n ≡ (has ws n || (v && eqb (get_or ns k 0) n)))
unfolding has
picked ns ws k n v l = (
  ap (λ ms. has ms n) (take-suc ns k 0 l) ∙ (has_append (take k ns) (get_or ns k 0 ∷ []) n ∙ ap (λ w. has (take k ns) n || w) (or_nil (eqb (get_or ns k 0) n))),
  has_append ws (cond v (get_or ns k 0 ∷ []) []) n ∙ ap (λ w. has ws n || w) (go v),
)
  where
    or_nil : (w : Bool) → (w || false) ≡ w
    or_nil true = refl
    or_nil false = refl

    go : (v : Bool) → has (cond v (get_or ns k 0 ∷ []) []) n ≡ (v && eqb (get_or ns k 0) n)
    go true = or_nil (eqb (get_or ns k 0) n)
    go false = refl

-- x of one more, where x is y and z
one_more : (x y z w v : Bool) → x ≡ (y && z) → (v ≡ true → w ≡ z) → (x || (w && v)) ≡ ((y || v) && z)
one_more x y z w v p q = grind arith

module _ (table : ℕ → List Filter) (ns : List ℕ) (from : ℕ) (e : Notice) where
  -- the test of the neighbour at place k
  abbrev wanted : ℕ → Bool
  wanted k = not (eqb (get_or ns k 0) from) && any_matches (table k) e

  -- only neighbours are chosen
  wanting_within : (k : ℕ) → k ≤ length ns → (n : ℕ) → has (take k ns) n ≡ false → has (wanting table ns from e k) n ≡ false
  unfolding wanting has
  wanting_within zero l n h = refl
  wanting_within (suc k) l n h =
      let r = wanting_within k (omega arith) n in
      let p = picked ns (wanting table ns from e k) k n (wanted k) (omega arith) in
      grind arith

  wanting_once : distinct ns ≡ true → (k : ℕ) → k ≤ length ns → distinct (wanting table ns from e k) ≡ true
  unfolding wanting distinct
  wanting_once d zero l = refl
  wanting_once d (suc k) l = go (wanted k) (wanting_once d k (omega arith))
    where
      go : (v : Bool) → distinct (wanting table ns from e k) ≡ true → distinct (wanting table ns from e k ++ cond v (get_or ns k 0 ∷ []) []) ≡ true
      go true r =
          distinct_push (wanting table ns from e k) (get_or ns k 0) r (wanting_within k (omega arith) (get_or ns k 0) (distinct_take ns k d (omega arith)))
      go false r = ap distinct (append-nil (wanting table ns from e k)) ∙ r

  pub wanting_distinct : distinct ns ≡ true → distinct (wanting table ns from e (length ns)) ≡ true
  wanting_distinct d = wanting_once d (length ns) (omega arith)

  module _ (learned : ℕ → List Filter) (same : (j : ℕ) → j < length ns → table j ≡ learned (get_or ns j 0)) where
    wanting_has_first :
        (k : ℕ) → k ≤ length ns → (n : ℕ) →
        has (wanting table ns from e k) n ≡ (has (take k ns) n && (not (eqb n from) && any_matches (learned n) e))
    unfolding wanting has
    wanting_has_first zero l n = refl
    wanting_has_first (suc k) l n =
        let r = wanting_has_first k (omega arith) n in
        let p = picked ns (wanting table ns from e k) k n (wanted k) (omega arith) in
        let z = not (eqb n from) && any_matches (learned n) e in
        p.1
        ∙ (one_more (has (wanting table ns from e k) n) (has (take k ns) n) z (wanted k) (eqb (get_or ns k 0) n) r here
        ∙ ap (λ h. h && z) (sym p.0))
      where
        here : eqb (get_or ns k 0) n ≡ true → wanted k ≡ (not (eqb n from) && any_matches (learned n) e)
        here i = rw (same k (omega arith), eqb-true (get_or ns k 0) n i)

    -- a neighbour is chosen just if the notice did not come from it and matches a filter learned from it
    pub wanting_has : (n : ℕ) → has (wanting table ns from e (length ns)) n ≡ (has ns n && (not (eqb n from) && any_matches (learned n) e))
    wanting_has n =
        wanting_has_first (length ns) (omega arith) n ∙ ap (λ ms. has ms n && (not (eqb n from) && any_matches (learned n) e)) (take-length ns)

pub sent_all :
    (t : Tree) → hangs t ≡ true → (b from k : ℕ) (e : Notice) → b ≤ length t → (s : Network) (table : ℕ → List Filter) →
    ((j : ℕ) → j < length (neighbours t b) → table j ≡ s.learned b (get_or (neighbours t b) j 0)) →
    (sent_to b k e (wanting table (neighbours t b) from e (length (neighbours t b))) s).channel
    ≡ send b (neighbours t b) (passed_on from k e (s.learned b)) s.channel
unfolding passed_on
sent_all t hung b from k e hb s table same =
    fun_ext (λ x. fun_ext (λ n.
    in_turn_all _ b ws s.channel (wanting_distinct table ns from e (neighbours_distinct t b hung hb)) x n
    ∙ (ap (λ v. cond (eqb x b && v) (s.channel x n ++ notice k e ∷ []) (s.channel x n)) (wanting_has table ns from e (s.learned b) same n)
    ∙ go x n (eqb x b) (has ns n) (not (eqb n from) && any_matches (s.learned b n) e))))
  where
    ns : List ℕ
    ns = neighbours t b

    ws : List ℕ
    ws = wanting table ns from e (length ns)

    go :
        (x n : ℕ) (u v w : Bool) →
        cond (u && (v && w)) (s.channel x n ++ notice k e ∷ []) (s.channel x n)
        ≡ cond (u && v) (s.channel x n ++ cond w (notice k e ∷ []) []) (s.channel x n)
    go x n false v w = refl
    go x n true false w = refl
    go x n true true true = refl
    go x n true true false = sym (append-nil (s.channel x n))
