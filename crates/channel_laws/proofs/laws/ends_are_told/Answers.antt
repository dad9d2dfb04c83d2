use Rattle.own_channel_laws.proofs.Endings.{ends-are_told}
use Rattle.channel_laws.proofs.laws.ends_are_told.Goals as goal

pub returns : goal.returns
returns c = ends-are_told
