use Rattle.scenario_laws.proofs.Airs.{air_kept}
use Rattle.scenario_laws.proofs.air_is_kept.Goals as goal

pub returns : goal.returns
returns c = air_kept
