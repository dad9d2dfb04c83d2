use Rattle.endpoint_laws.proofs.Again.{later-repeats_are_answered}
use Rattle.endpoint_laws.proofs.laws.later_repeats_are_answered.Goals as goal

pub returns : goal.returns
returns c = later-repeats_are_answered
