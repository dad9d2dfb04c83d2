use Rattle.own_channel_laws.proofs.Behind.{sends-behind_acceptance}
use Rattle.channel_laws.proofs.laws.sends_behind_acceptance.Goals as goal

pub returns : goal.returns
returns c = sends-behind_acceptance
