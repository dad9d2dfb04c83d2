use Rattle.accepting_laws.proofs.Demands.{first-options_are_asked}
use Rattle.accepting_laws.proofs.first_options_are_asked.Goals as goal

pub returns : goal.returns
returns c = first-options_are_asked
