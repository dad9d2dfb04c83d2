use Rattle.scenario_laws.proofs.Accounts.{controllers_honest}
use Rattle.scenario_laws.proofs.controllers_are_honest.Goals as goal

pub returns : goal.returns
returns c = controllers_honest
