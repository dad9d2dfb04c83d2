use Rattle.accepting_laws.proofs.Succeeding.{options-in_time_succeed}
use Rattle.accepting_laws.proofs.options_in_time_succeed.Goals as goal

pub returns : goal.returns
returns c = options-in_time_succeed
