use Rattle.scenario_laws.proofs.Gaining.{servers_are_read}
use Rattle.scenario_laws.proofs.servers_are_read.Goals as goal

pub returns : goal.returns
returns c = servers_are_read
