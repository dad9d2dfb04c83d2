use Rattle.scenario_laws.proofs.Gaining.{gains_over_either}
use Rattle.scenario_laws.proofs.gains_over_either.Goals as goal

pub returns : goal.returns
returns c = gains_over_either
