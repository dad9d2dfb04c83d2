use Rattle.scenario_laws.proofs.Early.{early_ends_gain}
use Rattle.scenario_laws.proofs.early_ends_gain.Goals as goal

pub returns : goal.returns
returns c = early_ends_gain
