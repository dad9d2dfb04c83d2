use Rattle.host_laws.proofs.Openings.{clients_begin_what_is_told}
use Rattle.host_laws.proofs.laws.clients_begin_what_is_told.Goals as goal

pub returns : goal.returns
returns c = clients_begin_what_is_told
