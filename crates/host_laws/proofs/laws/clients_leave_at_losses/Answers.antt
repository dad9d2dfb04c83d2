use Rattle.host_laws.proofs.Leaving.{clients_leave_at_losses}
use Rattle.host_laws.proofs.laws.clients_leave_at_losses.Goals as goal

pub returns : goal.returns
returns c = clients_leave_at_losses
