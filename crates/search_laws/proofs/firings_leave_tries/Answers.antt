use Rattle.search_laws.proofs.Firings.{firings-leave_tries}
use Rattle.search_laws.proofs.firings_leave_tries.Goals as goal

pub returns : goal.returns
returns c = firings-leave_tries
