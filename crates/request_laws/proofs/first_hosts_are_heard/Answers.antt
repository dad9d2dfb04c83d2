use Rattle.request_laws.proofs.Firsts.{first_hosts_are_heard}
use Rattle.request_laws.proofs.first_hosts_are_heard.Goals as goal

pub returns : goal.returns
returns c = first_hosts_are_heard
