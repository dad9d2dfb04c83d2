use Rattle.channel_laws.proofs.Pairing.{each-end_runs}
use Rattle.channel_laws.proofs.laws.each_end_runs.Goals as goal

pub returns : goal.returns
returns c = each-end_runs
