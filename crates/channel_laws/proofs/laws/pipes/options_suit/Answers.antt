use Rattle.channel_laws.proofs.Suiting.{options-suit}
use Rattle.channel_laws.proofs.laws.pipes.options_suit.Goals as goal

pub returns : goal.returns
returns c = options-suit
