-- The ways in which a command can go, opened once: a property of what a command leaves is shown for each of them.
use Rattle.std.proofs.Common.{◌≡◌, ℕ, ◌≤◌, Bool, true, false, cond, not, leb, List, [], ◌∷◌, ◌++◌, length, sym, refl, ◌∙◌}
use Rattle.std.proofs.lemmas.Bool.{and_parts, leb-true, le-leb, not-true}
use Rattle.filter.specs.Filter.{Filter, Notice}
use Rattle.model.specs.Tree.{Tree, has, edge, neighbours}
use Rattle.model.specs.Model.{Message, add, cut, notice, Network, tell, arrive, with_subscribers, with_posted, taken, react, receive, Command, join, leave, post, carry, known, known_up_to, dropped, allowed, effect, step, end}
use Rattle.model.proofs.Tree.{neighbours_edge}

-- the message is no notice
unfoldable pub tidings : Message → Bool
tidings (add f) = true
tidings (cut f) = true
tidings (notice k e) = false

pub record Cases (t : Tree) (s : Network) (P : Command → Network → Type 0) : Type 0 where
  pub refused : (d : Command) → allowed t s d ≡ false → P d s
  -- there is nothing to carry
  pub idle : (a b : ℕ) → s.channel a b ≡ [] → P (carry a b) s
  pub joined :
      (b n : ℕ) (f : Filter) → b ≤ length t → known_up_to n s.subscribers (length t) ≡ false →
      P (join b n f) (tell t b (with_subscribers s b (s.subscribers b ++ record { number = n; filter = f } ∷ [])))
  pub left : (b n : ℕ) → b ≤ length t → known n (s.subscribers b) ≡ true → P (leave b n) (tell t b (with_subscribers s b (dropped n (s.subscribers b))))
  pub posted : (b k : ℕ) (e : Notice) → b ≤ length t → has s.posted k ≡ false → P (post b k e) (arrive t b b k e (with_posted s k))
  pub told :
      (a b : ℕ) (m : Message) (ms : List Message) → a ≤ length t → edge t a b ≡ true → s.channel a b ≡ m ∷ ms → tidings m ≡ true →
      P (carry a b) (tell t b (taken s a b m ms))
  pub noticed :
      (a b k : ℕ) (e : Notice) (ms : List Message) → a ≤ length t → edge t a b ≡ true → s.channel a b ≡ notice k e ∷ ms →
      P (carry a b) (arrive t b a k e (taken s a b (notice k e) ms))

module _ (t : Tree) (s : Network) (P : Command → Network → Type 0) (each : Cases t s P) where
  by_messages : (a b : ℕ) (ms : List Message) → a ≤ length t → edge t a b ≡ true → s.channel a b ≡ ms → P (carry a b) (receive t a b ms s)
  unfolding receive react tidings
  by_messages a b [] ha e q = each.idle a b q
  by_messages a b (add f ∷ ms) ha e q = each.told a b (add f) ms ha e q refl
  by_messages a b (cut f ∷ ms) ha e q = each.told a b (cut f) ms ha e q refl
  by_messages a b (notice k n ∷ ms) ha e q = each.noticed a b k n ms ha e q

  by_effect : (d : Command) → allowed t s d ≡ true → P d (effect t s d)
  unfolding allowed effect
  by_effect (join b n f) h =
      let p = and_parts (leb b (length t)) (not (known_up_to n s.subscribers (length t))) h in
      each.joined b n f (leb-true b (length t) p.0) (not-true (known_up_to n s.subscribers (length t)) p.1)
  by_effect (leave b n) h =
      let p = and_parts (leb b (length t)) (known n (s.subscribers b)) h in
      each.left b n (leb-true b (length t) p.0) p.1
  by_effect (post b k e) h =
      let p = and_parts (leb b (length t)) (not (has s.posted k)) h in
      each.posted b k e (leb-true b (length t) p.0) (not-true (has s.posted k) p.1)
  by_effect (carry a b) h =
      let p = and_parts (leb a (length t)) (has (neighbours t a) b) h in
      let ha = leb-true a (length t) p.0 in
      by_messages a b (s.channel a b) ha (sym (neighbours_edge t a b ha) ∙ p.1) refl

  pub by_cases : (d : Command) → P d (step t s d)
  unfolding step
  by_cases d = go (allowed t s d) refl
    where
      go : (v : Bool) → allowed t s d ≡ v → P d (cond v (effect t s d) s)
      go true q = by_effect d q
      go false q = each.refused d q

-- a message that is under way is carried
pub step_carries :
    (t : Tree) (s : Network) (a b : ℕ) (m : Message) (ms : List Message) → a ≤ length t → has (neighbours t a) b ≡ true → s.channel a b ≡ m ∷ ms →
    step t s (carry a b) ≡ react t a b m (taken s a b m ms)
unfolding step allowed effect receive
step_carries t s a b m ms ha beside q = rw (le-leb a (length t) ha, beside, q)

-- what the empty network has and every command keeps holds after every list of commands
pub kept_to_end :
    (t : Tree) (P : Network → Type 0) → ((s : Network) (d : Command) → P s → P (step t s d)) → (ds : List Command) (s : Network) → P s → P (end t s ds)
unfolding end
kept_to_end t P keeps [] s h = h
kept_to_end t P keeps (d ∷ ds) s h = kept_to_end t P keeps ds (step t s d) (keeps s d h)
