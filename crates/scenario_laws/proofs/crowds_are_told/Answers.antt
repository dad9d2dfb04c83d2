use Rattle.scenario_laws.proofs.Broken.{crowds_are_told}
use Rattle.scenario_laws.proofs.crowds_are_told.Goals as goal

pub returns : goal.returns
returns c = crowds_are_told
