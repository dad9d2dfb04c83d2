use Rattle.request_laws.proofs.Together.{runs_serve_granted}
use Rattle.request_laws.proofs.runs_serve_granted.Goals as goal

pub returns : goal.returns
returns c = runs_serve_granted
