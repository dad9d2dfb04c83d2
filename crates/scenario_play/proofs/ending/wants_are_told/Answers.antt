use Rattle.scenario_play.proofs.Ended.{wants_are_told}
use Rattle.scenario_play.proofs.ending.wants_are_told.Goals as goal

pub returns : goal.returns
returns c = wants_are_told
