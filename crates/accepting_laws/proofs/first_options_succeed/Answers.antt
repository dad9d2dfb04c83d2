use Rattle.accepting_laws.proofs.Accepting.{first-options_succeed}
use Rattle.accepting_laws.proofs.first_options_succeed.Goals as goal

pub returns : goal.returns
returns c = first-options_succeed
