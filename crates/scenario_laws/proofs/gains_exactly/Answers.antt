use Rattle.scenario_laws.proofs.Gaining.{gains_exactly}
use Rattle.scenario_laws.proofs.gains_exactly.Goals as goal

pub returns : goal.returns
returns c = gains_exactly
