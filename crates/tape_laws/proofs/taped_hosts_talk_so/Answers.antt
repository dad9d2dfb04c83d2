use Rattle.tape_laws.proofs.Untaping.{taped_hosts_talk_so}
use Rattle.tape_laws.proofs.taped_hosts_talk_so.Goals as goal

pub returns : goal.returns
returns t c A tape = taped_hosts_talk_so A tape
