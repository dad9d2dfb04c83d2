use Rattle.tape_laws.proofs.Talking.{taped_hosts_come_so}
use Rattle.tape_laws.proofs.taped_hosts_come_so.Goals as goal

pub returns : goal.returns
returns t c A tape = taped_hosts_come_so A tape
