use Rattle.host_laws.proofs.Calming.{calm_hosts_move}
use Rattle.host_laws.proofs.laws.calm_hosts_move.Goals as goal

pub returns : goal.returns
returns g c A = calm_hosts_move A
