use Rattle.channel_laws.proofs.Meeting.{met-is_heeded}
use Rattle.channel_laws.proofs.laws.met_is_heeded.Goals as goal

pub returns : goal.returns
returns c = met-is_heeded
