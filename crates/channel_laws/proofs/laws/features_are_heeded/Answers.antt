use Rattle.channel_laws.proofs.Enquiring.{features-are_heeded}
use Rattle.channel_laws.proofs.laws.features_are_heeded.Goals as goal

pub returns : goal.returns
returns c = features-are_heeded
