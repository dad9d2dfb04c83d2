use Rattle.pair_laws.proofs.Taking.{hosts-send_within}
use Rattle.pair_laws.proofs.hosts_send_within.Goals as goal

pub returns : goal.returns
returns c = hosts-send_within
