use Rattle.channel_laws.proofs.HandingUp.{sdus-are_handed_up}
use Rattle.channel_laws.proofs.laws.sdus_are_handed_up.Goals as goal

pub returns : goal.returns
returns c = sdus-are_handed_up
