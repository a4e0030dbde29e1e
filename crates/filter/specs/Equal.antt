-- Equality by the numbers is an equivalence, as `PartialEq` and `Eq` ask for it: it is the library's equality of lists.
use Rattle.std.specs.Prelude.{◌≡◌, ◌&&◌, [], ◌∷◌, ◌==◌, nat_eq, refl}
use Rattle.std.proofs.Common.{ap, sym, ◌∙◌}
use Rattle.std.specs.Cmp.{IsEquivalence}
use Rattle.std.specs.Cmp.Lexicographic.{pointwise}
use Rattle.std.proofs.lemmas.Cmp.{nat_list_eq_equiv}
use Rattle.filter.specs.Filter.{Filter, same}

pub same_equiv : {K : Type 0} (numbers : K → Filter) → IsEquivalence (λ a b. same (numbers a) (numbers b))
unfolding same
same_equiv {K} numbers =
    record {
      refl = λ x. is (numbers x) (numbers x) ∙ nat_list_eq_equiv.refl (numbers x);
      symm = λ x y. is (numbers x) (numbers y) ∙ (nat_list_eq_equiv.symm (numbers x) (numbers y) ∙ sym (is (numbers y) (numbers x)));
      congr = λ x y z e.
          is (numbers x) (numbers z)
          ∙ (nat_list_eq_equiv.congr (numbers x) (numbers y) (numbers z) (sym (is (numbers x) (numbers y)) ∙ e) ∙ sym (is (numbers y) (numbers z)));
    }
  where
    is : (f g : Filter) → same f g ≡ pointwise nat_eq f g
    is [] [] = refl
    is [] (y ∷ ys) = refl
    is (x ∷ xs) [] = refl
    is (x ∷ xs) (y ∷ ys) = ap (λ b. x == y && b) (is xs ys)
