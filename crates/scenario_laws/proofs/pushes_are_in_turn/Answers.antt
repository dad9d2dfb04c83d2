use Rattle.scenario_laws.proofs.Accounts.{pushes_in_turn}
use Rattle.scenario_laws.proofs.pushes_are_in_turn.Goals as goal

pub returns : goal.returns
returns c = pushes_in_turn
