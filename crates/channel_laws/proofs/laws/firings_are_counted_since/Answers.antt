use Rattle.own_channel_laws.proofs.Spending.{firings-are_counted_since}
use Rattle.channel_laws.proofs.laws.firings_are_counted_since.Goals as goal

pub returns : goal.returns
returns c = firings-are_counted_since
