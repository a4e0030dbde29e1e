use Rattle.std.proofs.Common.{◌≡◌, ◌≤◌, length, get_or}
use Rattle.trials.proofs.brokers.sixty_four_subscribers_and_no_more.Given as goal

abbrev pub invariant-loop-n : goal.invariant-loop-n
invariant-loop-n g l = (length l.part ≡ 193) × (get_or l.part 0 0 ≤ 64)
