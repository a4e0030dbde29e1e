use Rattle.std.proofs.Common.{◌≡◌, true, false, arith, rules}
use Rattle.std.proofs.lemmas.Iterator.{cases_from_all, YieldsList-from_range}
use borrow.Author.Tests.{tests}
use Rattle.layout.specs.Parts.{tree}
use Rattle.layout.specs.State.{network_of}
use Rattle.network.proofs.Knowing.{known_at, known_answer}
use Rattle.network.proofs.network.Network.is_known.Goals as goal

pub returns : goal.returns
returns c =
    let o = c.args.self.now.opening in
    let s = network_of o c.args.self.now.memory.now in
    let known = known_at (tree o) s c.args.broker c.args.filter.now in
    let a = cases_from_all _ _ _ (λ b. known b ≡ true) (λ b. known b ≡ false) c.all.ensures.ran (YieldsList-from_range 0 o.brokers o.brokers (cc) (omega arith)) (λ x q k. search (rules, tests)) (λ x q k. search (rules, tests)) in
    known_answer o s c.args.broker c.args.filter.now c.all.result a
