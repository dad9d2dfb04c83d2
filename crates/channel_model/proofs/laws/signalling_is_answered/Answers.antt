use Rattle.channel_model.proofs.Worked.{are_answered}
use Rattle.channel_model.proofs.laws.signalling_is_answered.Goals as goal

pub returns : goal.returns
returns c = are_answered
