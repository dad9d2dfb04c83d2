use Rattle.scenario_laws.proofs.Accounts.{buffers_kept}
use Rattle.scenario_laws.proofs.buffers_are_kept.Goals as goal

pub returns : goal.returns
returns c = buffers_kept
