use Rattle.session_laws.proofs.AbortedFirst.{names_abort_first}
use Rattle.session_laws.proofs.names_abort_first.Goals as goal

pub returns : goal.returns
returns c = names_abort_first
