use Rattle.own_channel_laws.proofs.Arming.{armed-is_what_waits}
use Rattle.channel_laws.proofs.laws.armed_is_what_waits.Goals as goal

pub returns : goal.returns
returns c = armed-is_what_waits
