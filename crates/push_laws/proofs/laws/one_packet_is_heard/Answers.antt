use Rattle.push_laws.proofs.Beginning.{one-packet_is_heard}
use Rattle.push_laws.proofs.laws.one_packet_is_heard.Goals as goal

pub returns : goal.returns
returns c = one-packet_is_heard
