use Rattle.channel_laws.proofs.Shown.{grants-are_shown}
use Rattle.channel_laws.proofs.laws.grants_are_shown.Goals as goal

pub returns : goal.returns
returns c = grants-are_shown
