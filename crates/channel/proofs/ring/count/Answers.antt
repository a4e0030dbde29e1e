use Rattle.std.proofs.Common.{rules}
use Rattle.channel.proofs.Held.{count_held}
use Rattle.channel.proofs.ring.count.Goals as goal

pub returns : goal.returns
returns c = record { answer = search rules; holds = λ room width begin xs h. count_held room width begin xs c.args.channel.now h }
