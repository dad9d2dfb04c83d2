use Rattle.channel_laws.proofs.Modes.{modes-are_wished}
use Rattle.channel_laws.proofs.laws.pipes.modes_are_wished.Goals as goal

pub returns : goal.returns
returns c = modes-are_wished
