use Rattle.layout.proofs.Channels.{links}
use Rattle.layout.proofs.links.links_stands.Goals as goal

pub returns : goal.returns
returns c = links
