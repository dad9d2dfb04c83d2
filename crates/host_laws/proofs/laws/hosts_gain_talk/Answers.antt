use Rattle.host_laws.proofs.Gaining.{hosts_gain_talk}
use Rattle.host_laws.proofs.laws.hosts_gain_talk.Goals as goal

pub returns : goal.returns
returns c = hosts_gain_talk
