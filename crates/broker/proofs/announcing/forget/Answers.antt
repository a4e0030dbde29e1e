use Rattle.std.proofs.Common.{◌≡◌, ◌*◌, length, take, rules}
use Rattle.broker.proofs.Kept.{without_kept}
use Rattle.broker.proofs.announcing.forget.Goals as goal

pub returns : goal.returns
returns c =
    let l : length (take (2 * c.args.m) c.args.filter.bounds) ≡ 2 * c.args.m = search rules in
    let e = c.take_out.ensures in
    record {
      words = search rules;
      holds = λ room fs h. without_kept room c.args.m (take (2 * c.args.m) c.args.filter.bounds) fs c.args.learned.now h _ (search rules);
    }
