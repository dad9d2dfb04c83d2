use Rattle.own_channel_laws.proofs.Running.{endpoints-are_new}
use Rattle.channel_laws.proofs.laws.endpoints_are_new.Goals as goal

pub returns : goal.returns
returns c = endpoints-are_new
