use Rattle.std.proofs.Common.{rules}
use Rattle.channel.proofs.Words.{put_over}
use Rattle.channel.proofs.message.put.Goals as goal

pub returns : goal.returns
returns c = search (rules, put_over)
