use Rattle.blame_laws.proofs.AskedOnce.{runs-ask_once}
use Rattle.blame_laws.proofs.runs_ask_once.Goals as goal

pub returns : goal.returns
returns c = runs-ask_once
