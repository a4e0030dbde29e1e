-- What the entry writes: two rows of filters after two counts, and what the tests of its rows tell.
use Rattle.std.proofs.Common.{◌≡◌, ℕ, suc, ◌+◌, ◌-◌, ◌*◌, ◌<◌, ◌≤◌, None, is_none, Ok, List, [], ◌∷◌, ◌++◌, length, get_or, take, drop, set, sym, refl, ap, ◌∙◌, mul-le-mul, arith}
use borrow.Rule.Slice.PartMut.{put_mid}
use Rattle.std.proofs.lemmas.List.{append-nil, append_assoc, length-append, length-drop, length-take-le, drop-drop, drop_at, take_at, drop_all, take_rest}
use Rattle.std.proofs.lemmas.Bool.Decides.{nat_tests}
use Rattle.cover.specs.Maximal.{minus, maximal}
use Rattle.cover.specs.Table.{rows, written, held, laid}
use Rattle.cover.specs.Entry.{TellSays, to_announce, announced_before, known_whole, said_whole, unfit}
use Rattle.cover.proofs.RowLaws.{length_rows, written_rows}
use Rattle.cover.proofs.TableLaws.{wide_rows, wide_maximal, held_laid}
use Rattle.cover.proofs.Maximals.{length_maximal}

-- words written from a place to the end
pub written_to_end : (xs ys : List ℕ) (at : ℕ) → at ≤ length xs → put_mid at (length xs - at) xs ys ≡ take at xs ++ ys
written_to_end xs ys at h =
    let d = drop-drop (length xs - at) at xs in
    let e : at + (length xs - at) ≡ length xs = omega arith in
    let a = drop_all (length xs) xs (omega arith) in
    rw (d, e, a) (ap (λ zs. take at xs ++ zs) (append-nil ys))

-- two counts
two_counts : (mail ys : List ℕ) (x y : ℕ) → 2 ≤ length mail → set (set (take 2 mail ++ ys) 0 x) 1 y ≡ x ∷ (y ∷ ys)
two_counts [] ys x y h = absurd (omega arith)
two_counts (a ∷ []) ys x y h = absurd (omega arith)
two_counts (a ∷ b ∷ mail) ys x y h = refl

-- two rows after two counts
pub mail_written : (mail first second : List ℕ) (p q x y : ℕ) (one two : List ℕ) → length first ≡ p → 2 + p ≤ length mail →
    one ≡ take 2 mail ++ (first ++ drop (2 + p) mail) →
    two ≡ take (2 + p) one ++ (second ++ drop (2 + p + q) one) →
    set (set two 0 x) 1 y ≡ x ∷ (y ∷ (first ++ (second ++ drop (2 + p + q) mail)))
mail_written mail first second p q x y one two l b e f =
    let t = length-take-le 2 mail (omega arith) in
    let la = length-append (take 2 mail) first in
    let sp = append_assoc (take 2 mail) first (drop (2 + p) mail) in
    let k : length (take 2 mail ++ first) ≡ 2 + p = omega arith in
    let front = take_at (take 2 mail ++ first) (drop (2 + p) mail) (2 + p) k in
    let back = drop_at (take 2 mail ++ first) (drop (2 + p) mail) (2 + p) k in
    let one_is : one ≡ (take 2 mail ++ first) ++ drop (2 + p) mail = e ∙ sym sp in
    let dd = drop-drop q (2 + p) one in
    let de = drop-drop q (2 + p) mail in
    let rest : drop (2 + p + q) one ≡ drop (2 + p + q) mail = sym dd ∙ (ap (λ xs. drop q (drop (2 + p) xs)) one_is ∙ (ap (drop q) back ∙ de)) in
    let head : take (2 + p) one ≡ take 2 mail ++ first = ap (take (2 + p)) one_is ∙ front in
    let both : two ≡ take 2 mail ++ (first ++ (second ++ drop (2 + p + q) mail)) = rw (head, rest) at f ∙ append_assoc (take 2 mail) first (second ++ drop (2 + p + q) mail) in
    rw both (two_counts mail (first ++ (second ++ drop (2 + p + q) mail)) x y (omega arith))

-- what is known of rows that are not unfit
pub record Accepted (known said mail : List ℕ) : Type 0 where
  pub known_long : 2 ≤ length known
  pub pairs_some : 1 ≤ get_or known 0 0
  pub pairs_most : get_or known 0 0 ≤ 8
  pub known_most : get_or known 1 0 ≤ 1024
  pub known_there : 2 + 2 * get_or known 0 0 * get_or known 1 0 ≤ length known
  pub said_most : get_or said 0 0 ≤ 1024
  pub said_there : 1 + 2 * get_or known 0 0 * get_or said 0 0 ≤ length said
  pub said_long : 16385 ≤ length said
  pub mail_long : 32770 ≤ length mail

pub accepted : (known said mail : List ℕ) → unfit known said mail ≡ None → Accepted known said mail
unfolding unfit known_whole said_whole
accepted known said mail h =
    let n = ap is_none h in
    record {
      known_long = grind (arith, nat_tests);
      pairs_some = grind (arith, nat_tests);
      pairs_most = grind (arith, nat_tests);
      known_most = grind (arith, nat_tests);
      known_there = grind (arith, nat_tests);
      said_most = grind (arith, nat_tests);
      said_there = grind (arith, nat_tests);
      said_long = grind (arith, nat_tests);
      mail_long = grind (arith, nat_tests);
    }

-- the words of a table that are in use
pub table_front : (w : ℕ) (t : List ℕ) → 0 < length t → take (1 + w * get_or t 0 0) t ≡ length (held w t) ∷ written (held w t)
unfolding held
table_front w [] h = absurd (omega arith)
table_front w (x ∷ xs) h =
    let e : 1 + w * x ≡ suc (w * x) = omega arith in
    rw (e, length_rows w x xs, written_rows w x xs) refl

-- at most 1,024 filters of at most 8 pairs
pub few_words : (m n : ℕ) → m ≤ 8 → n ≤ 1024 → 2 * m * n ≤ 16384
few_words m n h k =
    let a : 2 * m ≤ 16 = omega arith in
    mul-le-mul a k

-- the table of what has to be announced, in words of its own
pub record Announcing (known t : List ℕ) : Type 0 where
  pub holds : held (2 * get_or known 0 0) t ≡ to_announce known
  pub counted : get_or t 0 0 ≡ length (to_announce known)
  pub few : get_or t 0 0 ≤ 1024
  pub long : length t ≡ 16385
  pub there : 1 + 2 * get_or known 0 0 * get_or t 0 0 ≤ 16385

pub announcing : (known said mail t : List ℕ) → Accepted known said mail → length t ≡ 16385 →
    t ≡ laid (2 * get_or known 0 0) 16385 (maximal (rows (2 * get_or known 0 0) (get_or known 1 0) (take (length known - 2) (drop 2 known)))) → Announcing known t
unfolding to_announce laid
announcing known said mail t a l e =
    let p = take_rest known 2 in
    let d = length-drop 2 known in
    let there = a.known_there in
    let w = wide_rows (2 * get_or known 0 0) (get_or known 1 0) (drop 2 known) (omega arith) in
    let v = wide_maximal (2 * get_or known 0 0) (rows (2 * get_or known 0 0) (get_or known 1 0) (drop 2 known)) w in
    let u : t ≡ laid (2 * get_or known 0 0) 16385 (maximal (rows (2 * get_or known 0 0) (get_or known 1 0) (drop 2 known))) = rw p at e in
    let h = held_laid (2 * get_or known 0 0) 16385 (maximal (rows (2 * get_or known 0 0) (get_or known 1 0) (drop 2 known))) v in
    let c : get_or t 0 0 ≡ length (maximal (rows (2 * get_or known 0 0) (get_or known 1 0) (drop 2 known))) = ap (λ xs. get_or xs 0 0) u in
    let b = length_maximal (rows (2 * get_or known 0 0) (get_or known 1 0) (drop 2 known)) in
    let r = length_rows (2 * get_or known 0 0) (get_or known 1 0) (drop 2 known) in
    let f : get_or t 0 0 ≤ 1024 = omega (arith, a.known_most) in
    let k = few_words (get_or known 0 0) (get_or t 0 0) a.pairs_most f in
    record { holds = ap (held (2 * get_or known 0 0)) u ∙ h; counted = c; few = f; long = l; there = omega arith }

-- and what the entry has done with it
pub tell_done : (known said mail t said₁ mail₁ : List ℕ) (changes : ℕ) → unfit known said mail ≡ None → Announcing known t →
    changes ≡ length (minus (held (2 * get_or known 0 0) t) (held (2 * get_or known 0 0) said)) + length (minus (held (2 * get_or known 0 0) said) (held (2 * get_or known 0 0) t)) →
    mail₁ ≡ length (minus (held (2 * get_or known 0 0) t) (held (2 * get_or known 0 0) said)) ∷ (length (minus (held (2 * get_or known 0 0) said) (held (2 * get_or known 0 0) t)) ∷ (written (minus (held (2 * get_or known 0 0) t) (held (2 * get_or known 0 0) said)) ++ (written (minus (held (2 * get_or known 0 0) said) (held (2 * get_or known 0 0) t)) ++ drop (2 + 2 * get_or known 0 0 * changes) mail))) →
    said₁ ≡ length (held (2 * get_or known 0 0) t) ∷ (written (held (2 * get_or known 0 0) t) ++ drop (1 + 2 * get_or known 0 0 * get_or t 0 0) said) →
    TellSays known said mail (unfit known said mail) (Ok changes) said₁ mail₁
unfolding TellSays announced_before held
tell_done known said mail t said₁ mail₁ changes z a c m s =
    let h = a.holds in
    let n = rw h at c in
    rw z (ap Ok n, rw (h, a.counted) at s, rw (h, n) at m)
