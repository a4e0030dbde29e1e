use Rattle.std.proofs.Common.{◌≡◌, Some, None, Decides, subst, sym, ap, ◌∙◌, arith}
use Rattle.std.proofs.lemmas.Bool.{lt-ltb}
use Rattle.broker.proofs.Part.{shape_held, shape_whole}
use Rattle.model.specs.Promise.{KnownToAll}
use Rattle.layout.specs.Parts.{tree}
use Rattle.layout.specs.State.{network_of}
use Rattle.layout.specs.declared.refusal.Refusal.TheVariants.{NotSubscribed}
use Rattle.network.proofs.Somebody.{handed_on, somebody, filter_read, nobody_there}
use Rattle.network.proofs.network.Network.known_to_all.Goals as goal

pub filter_of-requires : goal.filter_of-requires
filter_of-requires c =
    let o = c.args.self.now.opening in
    (o.valid.0.1, shape_whole o.subscribers _ _ (shape_held _ _ _ _ c.subscribers_at.ensures))

pub returns-in_err-filter : goal.returns-in_err-filter
returns-in_err-filter c =
    let o = c.args.self.now.opening in
    let (e, l) = c.in_ok-b.ensures in
    let none : None ≡ c.filter_of.result = grind arith in
    let is : c.in_err-filter.field-0.0 ≡ NotSubscribed c.args.number = grind arith in
    let n = nobody_there o (network_of o c.args.self.now.memory.now) c.in_ok-b.b c.args.number (lt-ltb c.in_ok-b.b o.brokers l) _ c.subscribers_at.ensures _ (none ∙ c.filter_of.ensures) in
    handed_on _ _ _ c.in_err-filter.field-0.0 c.from_residual-in_err-filter.ensures.1 (rw e at n ∙ ap Some (sym is))

pub returns : goal.returns
returns c =
    let o = c.args.self.now.opening in
    let s = network_of o c.args.self.now.memory.now in
    let (e, l) = c.in_ok-b.ensures in
    let t = lt-ltb c.in_ok-b.b o.brokers l in
    let found : Some c.in_ok-filter.filter ≡ c.filter_of.result = grind arith in
    let f = filter_read o s c.in_ok-b.b c.args.number t _ c.subscribers_at.ensures c.in_ok-filter.filter (found ∙ c.filter_of.ensures) in
    let n = somebody o s c.in_ok-b.b c.args.number t _ c.subscribers_at.ensures c.in_ok-filter.filter (found ∙ c.filter_of.ensures) in
    let g = rw e at f in
    (rw e at n, subst (Decides c.is_known.result) (λ i. KnownToAll (tree o) s (e i) (g i)) c.is_known.ensures)
