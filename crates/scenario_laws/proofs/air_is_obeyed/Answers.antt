use Rattle.scenario_laws.proofs.Airs.{air_obeyed}
use Rattle.scenario_laws.proofs.air_is_obeyed.Goals as goal

pub returns : goal.returns
returns c = air_obeyed
