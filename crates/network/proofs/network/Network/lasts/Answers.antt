use Rattle.std.proofs.Common.{◌∙◌, arith}
use Rattle.broker.proofs.Kept.{length_kept}
use Rattle.routing.proofs.Compared.{table_most}
use Rattle.network.proofs.network.Network.lasts.Goals as goal

pub save-table-requires : goal.save-table-requires
save-table-requires c =
    let l = length_kept _ _ _ _ c.table.ensures in
    let t = table_most c.args.self.now.opening in
    omega arith

pub replay-requires : goal.replay-requires
replay-requires c =
    record {
      beside = c.requires.beside;
      wide = c.requires.wide;
      table = rw (c.deref_mut.ensures.value ∙ c.save-table.ensures) c.table.ensures;
    }
