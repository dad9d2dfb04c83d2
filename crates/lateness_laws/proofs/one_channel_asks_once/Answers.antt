use Rattle.lateness_laws.proofs.Keeping.{one-channel_asks_once}
use Rattle.lateness_laws.proofs.one_channel_asks_once.Goals as goal

pub returns : goal.returns
returns c = one-channel_asks_once
