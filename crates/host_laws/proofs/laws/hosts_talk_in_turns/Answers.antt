use Rattle.host_laws.proofs.Talking.{hosts_talk_in_turns}
use Rattle.host_laws.proofs.laws.hosts_talk_in_turns.Goals as goal

pub returns : goal.returns
returns g c A = hosts_talk_in_turns A
