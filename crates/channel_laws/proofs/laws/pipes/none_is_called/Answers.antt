use Rattle.channel_laws.proofs.OneByOne.{none-is_called}
use Rattle.channel_laws.proofs.laws.pipes.none_is_called.Goals as goal

pub returns : goal.returns
returns c = none-is_called
