use Rattle.window_laws.proofs.Hosts.{hosts-hold_as_taken}
use Rattle.window_laws.proofs.hosts_hold_as_taken.Goals as goal

pub returns : goal.returns
returns c = hosts-hold_as_taken
