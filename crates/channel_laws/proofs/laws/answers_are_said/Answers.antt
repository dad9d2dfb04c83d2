use Rattle.own_channel_laws.proofs.Saying.{answers-are_said}
use Rattle.channel_laws.proofs.laws.answers_are_said.Goals as goal

pub returns : goal.returns
returns c = answers-are_said
