use Rattle.tape_laws.proofs.Hearing.{hears_so}
use Rattle.tape_laws.proofs.taped_hosts_hear_so.Goals as goal

pub returns : goal.returns
returns t c A tape = hears_so A tape
