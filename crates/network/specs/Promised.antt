-- The promises as the calls of a network carry them: from the network that is in memory on, whatever commands come, and whichever of them are refused.
use Rattle.std.specs.Prelude.{◌≡◌, ℕ, ◌≤◌, Bool, true, false, cond, not, List, [], ◌∷◌, map, length, Some, None, Decides, Option, nat_lt}
use Rattle.filter.specs.Filter.{Filter, Notice, matches}
use Rattle.cover.specs.Maximal.{maximal}
use Rattle.model.specs.Tree.{neighbours, has}
use Rattle.model.specs.Model.{Network, known, filter_of, step, end_if, Quiet}
use Rattle.model.specs.Model as model
use Rattle.model.specs.Promise.{KnownToAll, subscribed, stays, times, behind}
use Rattle.model.specs.Promises.{SecondPromise, ThirdPromise}
use Rattle.layout.specs.Parts.{tree}
use Rattle.routing.specs.Rooms.{first, when}
use Rattle.steps.specs.Rules.{command_of, refusal_of, after}
use Rattle.layout.specs.declared.opening.Opening.{Opening}
use Rattle.layout.specs.declared.command.Command.{Command}
use Rattle.layout.specs.declared.refusal.Refusal.{Refusal}
use Rattle.layout.specs.declared.refusal.Refusal.TheVariants.{NoSuchBroker, NotSubscribed}

-- A notice with the number k was posted in the network s, which is then s₁. Every subscriber whose filter is known to all at this moment and who stays
-- has been delivered it exactly once when all is quiet, if its filter matches, and never if it does not, and its filter stays known to all: whatever
-- commands come meanwhile, and whichever of them are refused
pub record Promised (o : Opening) (s : Network) (k : ℕ) (e : Notice) (s₁ : Network) : Type 0 where
  pub exactly_once :
      (may : Network → model.Command → Bool) (es : List model.Command) (c n : ℕ) (f : Filter) → c ≤ length (tree o) → subscribed n f (s.subscribers c) ≡ true →
      KnownToAll (tree o) s c f → stays c n es ≡ true → Quiet (tree o) (end_if may (tree o) s₁ es) →
      times k n (end_if may (tree o) s₁ es).deliveries ≡ cond (matches f e) 1 0
  -- known or not, quiet or not
  pub never :
      (may : Network → model.Command → Bool) (es : List model.Command) (c n : ℕ) (f : Filter) → c ≤ length (tree o) → subscribed n f (s.subscribers c) ≡ true →
      stays c n es ≡ true → matches f e ≡ false → times k n (end_if may (tree o) s₁ es).deliveries ≡ 0
  pub stays_known :
      (may : Network → model.Command → Bool) (es : List model.Command) (c n : ℕ) (f : Filter) → c ≤ length (tree o) → subscribed n f (s.subscribers c) ≡ true →
      KnownToAll (tree o) s c f → stays c n es ≡ true → KnownToAll (tree o) (end_if may (tree o) s₁ es) c f

-- whether nothing is under way; and then every broker has learned from each beside it exactly the maximal filters of all subscribed behind it, and the
-- filter of every subscriber is known to all
pub record Quietness (o : Opening) (s : Network) (quiet : Bool) : Type 0 where
  pub decides : Decides quiet (Quiet (tree o) s)
  pub tables :
      quiet ≡ true → (b n : ℕ) → b ≤ length (tree o) → has (neighbours (tree o) b) n ≡ true → s.learned b n ≡ maximal (behind (tree o) s.subscribers b n)
  pub known : quiet ≡ true → (c n : ℕ) (f : Filter) → c ≤ length (tree o) → subscribed n f (s.subscribers c) ≡ true → KnownToAll (tree o) s c f

-- why it cannot be told of a subscriber whether its filter is known to all
abbrev pub nobody : Opening → Network → (broker number : ℕ) → Option Refusal
nobody o s b n = first (when (not (nat_lt b o.brokers)) (NoSuchBroker b) ∷ when (not (known n (s.subscribers b))) (NotSubscribed n) ∷ [])

-- the network after all of these commands, of which each is done or refused by the rules
unfoldable pub played : Opening → Network → List Command → Network
played o s [] = s
played o s (d ∷ ds) = played o (after o s d) ds

-- those of the commands that are done, as the model takes them
abbrev pub kept_if : Option Refusal → model.Command → List model.Command → List model.Command
kept_if None d ds = d ∷ ds
kept_if (Some r) d ds = ds

unfoldable pub done : Opening → Network → List Command → List model.Command
done o s [] = []
done o s (d ∷ ds) = kept_if (refusal_of o s d) (command_of o d) (done o (after o s d) ds)

-- a list of commands was played from the opening: so many of them were done, the network is where these lead to, and both promises hold over all of them
pub record KeptPromises (o : Opening) (ds : List Command) (many : ℕ) (s : Network) : Type 0 where
  pub network : s ≡ played o model.empty ds
  pub counted : many ≡ length (done o model.empty ds)
  pub reached : s ≡ model.end (tree o) model.empty (done o model.empty ds)
  pub second : SecondPromise (tree o) (done o model.empty ds)
  pub third : ThirdPromise (tree o) (done o model.empty ds)
  -- who stays through all of the commands stays through those that are done
  pub staying : (c n : ℕ) → stays c n (map (command_of o) ds) ≡ true → stays c n (done o model.empty ds) ≡ true
