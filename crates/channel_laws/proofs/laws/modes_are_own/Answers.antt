use Rattle.channel_laws.proofs.OwnModes.{modes-are_own}
use Rattle.channel_laws.proofs.laws.modes_are_own.Goals as goal

pub returns : goal.returns
returns c = modes-are_own
