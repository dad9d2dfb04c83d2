use Rattle.blame_laws.proofs.Runs.{runs_spare_peers}
use Rattle.blame_laws.proofs.runs_spare_peers.Goals as goal

pub returns : goal.returns
returns c = runs_spare_peers
