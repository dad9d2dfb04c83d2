use Rattle.accepting_laws.proofs.Answering.{new-successes_suffice}
use Rattle.accepting_laws.proofs.new_successes_suffice.Goals as goal

pub returns : goal.returns
returns c = new-successes_suffice
