use Rattle.lateness_laws.proofs.AskedOnce.{options-are_asked_once}
use Rattle.lateness_laws.proofs.options_are_asked_once.Goals as goal

pub returns : goal.returns
returns c = options-are_asked_once
