use Rattle.own_channel_laws.proofs.Awaiting.{requests-are_awaited}
use Rattle.channel_laws.proofs.laws.requests_are_awaited.Goals as goal

pub returns : goal.returns
returns c = requests-are_awaited
