use Rattle.std.proofs.Common.{◌∙◌, arith}
use Rattle.layout.proofs.Carried.{carries_length, carries_count}
use Rattle.network.proofs.network.Network.under_way.Goals as goal

pub count-requires : goal.count-requires
count-requires c =
    let l = carries_length _ _ _ _ c.channel.ensures in
    rw l (omega arith)

pub returns : goal.returns
returns c = c.count.ensures.answer ∙ carries_count _ _ _ _ c.channel.ensures
