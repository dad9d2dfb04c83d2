use Rattle.tape_laws.proofs.Own.{own_servers_are_taped}
use Rattle.tape_laws.proofs.own_servers_are_taped.Goals as goal

pub returns : goal.returns
returns g c U = own_servers_are_taped U
