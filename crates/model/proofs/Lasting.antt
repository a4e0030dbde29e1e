-- What lasts on a channel, of the table at its end through all the messages under way, over each part of a command.
use Rattle.std.proofs.Common.{◌≡◌, ℕ, Bool, true, false, cond, not, ◌&&◌, eqb, List, [], ◌∷◌, ◌++◌, sym, refl, ap, ◌∙◌}
use Rattle.std.proofs.lemmas.Bool.{eqb-true, and_parts, and_from}
use Rattle.filter.specs.Filter.{Filter, Notice}
use Rattle.cover.specs.Maximal.{any_matches}
use Rattle.cover.specs.Replay.{Between}
use Rattle.model.specs.Tree.{Tree, has, edge, neighbours}
use Rattle.model.specs.Model.{Message, notice, after, Network, announcement, batch, tell, arrive, passed_on, taken}
use Rattle.model.specs.Promise.{replay, lasts}
use Rattle.model.proofs.Messages.{lasts_end, lasts_after, lasts_append, lasts_batch}
use Rattle.model.proofs.Tables.{TablesBut}

-- through all the messages under way from x to n
abbrev pub Lasts : (List Filter → Bool) → Network → (x n : ℕ) → Type 0
Lasts P s x n = lasts P (s.channel x n) (s.learned n x) ≡ true

module _ (P : List Filter → Bool) (x n : ℕ) where
  pub taken_lasts : (s : Network) (a b : ℕ) (m : Message) (ms : List Message) → s.channel a b ≡ m ∷ ms → Lasts P s x n → Lasts P (taken s a b m ms) x n
  taken_lasts s a b m ms q h = go (eqb x a) refl (eqb n b) refl
    where
      go :
          (v : Bool) → eqb x a ≡ v → (w : Bool) → eqb n b ≡ w →
          lasts P (cond (v && w) ms (s.channel x n)) (cond (w && v) (after m (s.learned b a)) (s.learned n x)) ≡ true
      go true i true j =
          let k : lasts P (s.channel a b) (s.learned b a) ≡ true =
          ap (λ z. lasts P (s.channel a z) (s.learned z a)) (sym (eqb-true n b j))
          ∙ (ap (λ z. lasts P (s.channel z n) (s.learned n z)) (sym (eqb-true x a i)) ∙ h) in
          lasts_after P m ms (s.learned b a) (ap (λ z. lasts P z (s.learned b a)) (sym q) ∙ k)
      go true i false j = h
      go false i true j = h
      go false i false j = h

  pub arrive_lasts : (t : Tree) (b m j : ℕ) (e : Notice) (u : Network) → Lasts P u x n → Lasts P (arrive t b m j e u) x n
  unfolding arrive passed_on lasts after
  arrive_lasts t b m j e u h = go (eqb x b && has (neighbours t b) n) (not (eqb n m) && any_matches (u.learned b n) e)
    where
      now : P (replay (u.channel x n) (u.learned n x)) ≡ true
      now = lasts_end P (u.channel x n) (u.learned n x) h

      more : (w : Bool) → lasts P (cond w (notice j e ∷ []) []) (replay (u.channel x n) (u.learned n x)) ≡ true
      more true = and_from (P (replay (u.channel x n) (u.learned n x))) _ now now
      more false = now

      go : (v w : Bool) → lasts P (cond v (u.channel x n ++ cond w (notice j e ∷ []) []) (u.channel x n)) (u.learned n x) ≡ true
      go true w = lasts_append P (u.channel x n) (cond w (notice j e ∷ []) []) (u.learned n x) h (more w)
      go false w = h

  pub tell_lasts :
      (t : Tree) (b : ℕ) (u : Network) → TablesBut t b u → edge t x n ≡ true → Lasts P u x n →
      (x ≡ b → (gs : List Filter) → Between (u.announced x n) (announcement t u x n) gs → P gs ≡ true) → Lasts P (tell t b u) x n
  unfolding tell
  tell_lasts t b u h e holds between = go (eqb x b && has (neighbours t b) n) refl
    where
      go :
          (v : Bool) → (eqb x b && has (neighbours t b) n) ≡ v →
          lasts P (cond v (u.channel x n ++ batch (u.announced b n) (announcement t u b n)) (u.channel x n)) (u.learned n x) ≡ true
      go true q =
          let i = eqb-true x b (and_parts (eqb x b) (has (neighbours t b) n) q).0 in
          let l = lasts_batch P (u.announced x n) (announcement t u x n) (h.announced_sorted x n) (between i) in
          let m : lasts P (batch (u.announced x n) (announcement t u x n)) (replay (u.channel x n) (u.learned n x)) ≡ true =
          ap (lasts P (batch (u.announced x n) (announcement t u x n))) (h.replays x n e) ∙ l in
          ap (λ y. lasts P (u.channel x n ++ batch (u.announced y n) (announcement t u y n)) (u.learned n x)) (sym i)
          ∙ lasts_append P (u.channel x n) (batch (u.announced x n) (announcement t u x n)) (u.learned n x) holds m
      go false q = holds
