use Rattle.own_channel_laws.proofs.Informing.{features-are_awaited}
use Rattle.channel_laws.proofs.laws.features_are_awaited.Goals as goal

pub returns : goal.returns
returns c = features-are_awaited
