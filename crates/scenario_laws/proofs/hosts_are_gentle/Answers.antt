use Rattle.scenario_laws.proofs.Gentle.{hosts_are_gentle}
use Rattle.scenario_laws.proofs.hosts_are_gentle.Goals as goal

pub returns : goal.returns
returns c = hosts_are_gentle
