use Rattle.channel_laws.proofs.Modes.{modes-are_common}
use Rattle.channel_laws.proofs.laws.pipes.modes_are_common.Goals as goal

pub returns : goal.returns
returns c = modes-are_common
