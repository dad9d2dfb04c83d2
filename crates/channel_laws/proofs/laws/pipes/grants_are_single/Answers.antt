use Rattle.channel_laws.proofs.Singling.{grants-are_single}
use Rattle.channel_laws.proofs.laws.pipes.grants_are_single.Goals as goal

pub returns : goal.returns
returns c = grants-are_single
