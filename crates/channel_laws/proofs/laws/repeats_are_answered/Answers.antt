use Rattle.own_channel_laws.proofs.Repeating.{repeats-are_answered}
use Rattle.channel_laws.proofs.laws.repeats_are_answered.Goals as goal

pub returns : goal.returns
returns c = repeats-are_answered
