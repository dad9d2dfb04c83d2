use Rattle.scenario_laws.proofs.Early.{broken_goes_on}
use Rattle.scenario_laws.proofs.broken_runs_go_on.Goals as goal

pub returns : goal.returns
returns c = broken_goes_on
