use Rattle.own_channel_laws.proofs.Spending.{tries-are_kept}
use Rattle.channel_laws.proofs.laws.tries_are_kept.Goals as goal

pub returns : goal.returns
returns c = tries-are_kept
