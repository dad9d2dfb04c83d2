use Rattle.own_channel_laws.proofs.Incoming.{sdus-are_read}
use Rattle.channel_laws.proofs.laws.sdus_are_read.Goals as goal

pub returns : goal.returns
returns c = sdus-are_read
