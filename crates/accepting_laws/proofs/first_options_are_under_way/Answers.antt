use Rattle.accepting_laws.proofs.Coming.{first-options_are_under_way}
use Rattle.accepting_laws.proofs.first_options_are_under_way.Goals as goal

pub returns : goal.returns
returns c = first-options_are_under_way
