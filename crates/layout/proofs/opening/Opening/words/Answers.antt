use Rattle.std.proofs.Common.{◌-◌, ◌*◌}
use Rattle.layout.specs.Memory.{notices_words, deliveries_words}
use Rattle.layout.specs.Plan.{words_of}
use Rattle.layout.proofs.Frames.{words_together}
use Rattle.layout.proofs.opening.Opening.words.Goals as goal

pub returns : goal.returns
unfolding words_of
returns c =
    let o = c.args.self.now in
    let p = words_together o.brokers (2 * (o.brokers - 1)) c.subscribers_words-broker.result notices_words c.table_words.result c.channel_words.result notices_words deliveries_words in
    let a = c.subscribers_words-broker.ensures.value in
    let b = c.table_words.ensures.value in
    let d = c.channel_words.ensures.value in
    cc
