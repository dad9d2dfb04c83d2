use Rattle.own_channel_laws.proofs.Naming.{endpoints-name_one}
use Rattle.channel_laws.proofs.laws.endpoints_name_one_channel.Goals as goal

pub returns : goal.returns
returns c = endpoints-name_one
