use Rattle.own_channel_laws.proofs.Deciding.{answers-are_decisive}
use Rattle.channel_laws.proofs.laws.answers_are_decisive.Goals as goal

pub returns : goal.returns
returns c = answers-are_decisive
