-- An add or a cut reaches a table: what there has to be room for, and that an add of what is there changes nothing.
use Rattle.std.proofs.Common.{◌≡◌, ℕ, suc, ◌+◌, ◌*◌, ◌<◌, ◌≤◌, true, false, List, [], ◌∷◌, length, get_or, take, sym, refl, ap, ◌∙◌, subst, mul-suc, arith}
use Rattle.filter.specs.Filter.{Filter}
use Rattle.filter.specs.declared.value.Filter.{Filter as Ranges}
use Rattle.cover.specs.Maximal.{among, put, without}
use Rattle.cover.specs.Sorted.{sorted}
use Rattle.cover.specs.Table.{held, stored, changed}
use Rattle.cover.proofs.Order.{put_among}
use Rattle.cover.proofs.TableLaws.{length_held, stored_same}
use Rattle.channel.specs.Message.{words}
use Rattle.channel.specs.declared.message.Message.{Message}
use Rattle.channel.specs.declared.message.Message.TheVariants.{Add, Cut, Notice as Post}
use Rattle.filter.specs.declared.value.Notice.{Notice}
use Rattle.model.specs.Model.{after}
use Rattle.layout.specs.Mail.{message_in}

-- one that is new makes the table longer by one
pub length_put_new : (f : Filter) (fs : List Filter) → among f fs ≡ false → length (put f fs) ≡ suc (length fs)
unfolding among put
length_put_new f [] h = refl
length_put_new f (g ∷ fs) h =
    let r = length_put_new f fs in
    grind arith

module _ (m : ℕ) (x : Message) (f : Ranges) (t : List ℕ) (is : x ≡ Add f) (long : 2 * m ≤ length f.bounds) where
  pub learn_found : among (take (2 * m) f.bounds) (held (2 * m) t) ≡ true →
      sorted (held (2 * m) t) ≡ true → 0 < length t → t ≡ changed (2 * m) (after (message_in m (words m x))) t
  unfolding after
  learn_found e s l =
      let p = put_among (take (2 * m) f.bounds) (held (2 * m) t) s e in
      sym (ap (λ y. changed (2 * m) (after (message_in m (words m y))) t) is ∙ ap (λ fs. stored (2 * m) fs t) p ∙ stored_same (2 * m) t l)

  -- there is room for one filter more, if this one is new
  pub learn_room : among (take (2 * m) f.bounds) (held (2 * m) t) ≡ false →
      1 + 2 * m * length (after (message_in m (words m x)) (held (2 * m) t)) ≤ length t → 1 + (2 * m * get_or t 0 0 + 2 * m) ≤ length t
  unfolding after
  learn_room e r =
      let fs = held (2 * m) t in
      let g = take (2 * m) f.bounds in
      let q : 1 + 2 * m * length (put g fs) ≤ length t = subst (λ y. 1 + 2 * m * length (after (message_in m (words m y)) fs) ≤ length t) is r in
      let l = ap (λ n. 2 * m * n) (length_put_new g fs e ∙ ap suc (length_held (2 * m) t)) in
      let d = mul-suc (2 * m) (get_or t 0 0) in
      omega arith

  pub learned_words : (new : List ℕ) → new ≡ changed (2 * m) (put (take (2 * m) f.bounds)) t → new ≡ changed (2 * m) (after (message_in m (words m x))) t
  unfolding after
  learned_words new e = e ∙ sym (ap (λ y. changed (2 * m) (after (message_in m (words m y))) t) is)

pub forgotten_words : (m : ℕ) (x : Message) (f : Ranges) (t new : List ℕ) → x ≡ Cut f → new ≡ changed (2 * m) (without (take (2 * m) f.bounds)) t →
    new ≡ changed (2 * m) (after (message_in m (words m x))) t
unfolding after
forgotten_words m x f t new is e = e ∙ sym (ap (λ y. changed (2 * m) (after (message_in m (words m y))) t) is)

pub passed_words : (m : ℕ) (x : Message) (n : ℕ) (e : Notice) (t : List ℕ) → x ≡ Post n e → 0 < length t → t ≡ changed (2 * m) (after (message_in m (words m x))) t
unfolding after
passed_words m x n e t is l = sym (ap (λ y. changed (2 * m) (after (message_in m (words m y))) t) is ∙ stored_same (2 * m) t l)
