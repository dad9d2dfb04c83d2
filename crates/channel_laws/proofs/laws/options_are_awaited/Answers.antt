use Rattle.own_channel_laws.proofs.Options.{options-are_awaited}
use Rattle.channel_laws.proofs.laws.options_are_awaited.Goals as goal

pub returns : goal.returns
returns c = options-are_awaited
