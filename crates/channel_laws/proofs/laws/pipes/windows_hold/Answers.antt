use Rattle.channel_laws.proofs.Windowing.{windows-hold}
use Rattle.channel_laws.proofs.laws.pipes.windows_hold.Goals as goal

pub returns : goal.returns
returns c = windows-hold
