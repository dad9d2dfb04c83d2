use Rattle.scenario_laws.proofs.Framing.{windows_kept}
use Rattle.scenario_laws.proofs.windows_are_kept.Goals as goal

pub returns : goal.returns
returns c = windows_kept
