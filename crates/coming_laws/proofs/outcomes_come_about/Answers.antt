use Rattle.coming_laws.proofs.Coming.{outcomes_come_about}
use Rattle.coming_laws.proofs.outcomes_come_about.Goals as goal

pub returns : goal.returns
returns c = outcomes_come_about
