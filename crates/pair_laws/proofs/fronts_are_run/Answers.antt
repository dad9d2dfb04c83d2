use Rattle.pair_laws.proofs.Fronts.{fronts-are_run}
use Rattle.pair_laws.proofs.fronts_are_run.Goals as goal

pub returns : goal.returns
returns c = fronts-are_run
