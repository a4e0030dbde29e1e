-- The worked example, by computing it.
use Rattle.std.proofs.Common.{◌≡◌, true, ◌∷◌, ◌++◌, refl, arith}
use Rattle.filter.specs.Filter.{matches, covers, same, before}
use Rattle.cover.specs.Maximal.{among, put, without, ordered, covered, uncovered, maximal, any_matches, any_covers, minus}
use Rattle.model.specs.Tree.{Tree, hangs, neighbours, under, up, has, hop}
use Rattle.model.specs.Model.{after, Network, filters_of, from_others, to_announce, adds, cuts, batch, tell, delivered, passed_on, arrive, react, receive, known, known_up_to, dropped, allowed, effect, post, step, end, empty, Quiet}
use Rattle.model.specs.Promise.{subscribed, is_leave, stays, times, wants, Throughout, is_quiet, all_below, nothing}
use Rattle.model.specs.Promises.{reached}
use Rattle.model.specs.Example.{four, narrow, first, Follow, Worked, before_post, after_post, Met, three, stale, overtaken, NotEnough}
use Rattle.model.specs.Invariant.{Few}
use Rattle.model.proofs.Rest.{few_throughout}
use Rattle.model.proofs.Stays.{known_called, known_on_every_way}
use Rattle.model.proofs.Decide.{tested}
use Rattle.model.proofs.Kept.{third, quiet_known_stands}

-- all that a command computes with
unfoldable steps : Type 0
unfolding matches covers same before among put without ordered covered uncovered maximal any_matches any_covers minus hangs neighbours under up has hop after filters_of from_others to_announce adds cuts batch tell delivered passed_on arrive react receive known known_up_to dropped allowed effect step end subscribed is_leave stays times
steps = Unit {0}

pub worked : Worked
unfolding steps Follow
worked = (
  refl,
  refl,
  refl,
  (
    refl,
    refl,
    refl,
    (
      refl,
      refl,
      refl,
      (
        refl,
        refl,
        refl,
        (
          refl,
          refl,
          refl,
          (
            refl,
            refl,
            refl,
            (
              refl,
              refl,
              refl,
              (
                refl,
                refl,
                refl,
                (
                  refl,
                  refl,
                  refl,
                  (
                    refl,
                    refl,
                    refl,
                    (
                      refl,
                      refl,
                      refl,
                      (refl, refl, refl, tt),
                    ),
                  ),
                ),
              ),
            ),
          ),
        ),
      ),
    ),
  ),
)

quiet_by : (t : Tree) (s : Network) → is_quiet t s ≡ true → Quiet t s
quiet_by t s h = (tested t s).quiet.0 h

quiet_before : Quiet four (reached four before_post)
unfolding steps is_quiet all_below nothing
quiet_before = quiet_by four (reached four before_post) refl

quiet_after : Quiet four (end four (reached four before_post) (post 0 1 first ∷ after_post))
unfolding steps is_quiet all_below nothing
quiet_after = quiet_by four (end four (reached four before_post) (post 0 1 first ∷ after_post)) refl

pub met : Met
unfolding steps Few wants Throughout
met =
    let there : subscribed 30 narrow ((reached four before_post).subscribers 3) ≡ true = refl in
    let known = quiet_known_stands four refl before_post quiet_before 3 30 narrow (omega arith) there refl in
    record {
      tree = refl;
      few = few_throughout four refl 64 (before_post ++ post 0 1 first ∷ after_post) empty (λ b. omega arith);
      quiet_before = quiet_before;
      there = there;
      self = refl;
      known = known;
      unused = refl;
      staying = refl;
      called = known_called four refl 3 (omega arith) (reached four before_post) narrow first 0 refl (known_on_every_way four refl 3 (omega arith) (reached four before_post) narrow known 0 (omega arith));
      wanting = (refl, (refl, (refl, (refl, (refl, (refl, (refl, (refl, refl))))))));
      quiet_after = quiet_after;
      delivered = (third four refl before_post).exactly_once after_post 0 1 3 30 first narrow (omega arith) (omega arith) refl there known refl quiet_after;
    }

pub not_enough : NotEnough
unfolding steps is_quiet all_below nothing
not_enough =
    record {
      there = refl;
      learned_at_0 = refl;
      learned_at_1 = refl;
      staying = refl;
      quiet = quiet_by three (end three (reached three stale) (post 0 1 first ∷ overtaken)) refl;
      lost = refl;
    }
