use Rattle.tape_laws.proofs.OwnGains.{own_servers_gain_less}
use Rattle.tape_laws.proofs.own_servers_gain_less.Goals as goal

pub returns : goal.returns
returns c = own_servers_gain_less
