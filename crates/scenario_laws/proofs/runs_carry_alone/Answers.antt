use Rattle.scenario_laws.proofs.Alone.{runs-carry_alone}
use Rattle.scenario_laws.proofs.runs_carry_alone.Goals as goal

pub returns : goal.returns
returns c = runs-carry_alone
