use Rattle.scenario_laws.proofs.Orderly.{hosts-live_over_links}
use Rattle.scenario_laws.proofs.hosts_live_over_links.Goals as goal

pub returns : goal.returns
returns c = hosts-live_over_links
