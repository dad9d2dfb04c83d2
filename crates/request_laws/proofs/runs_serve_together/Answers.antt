use Rattle.request_laws.proofs.Together.{runs_serve_together}
use Rattle.request_laws.proofs.runs_serve_together.Goals as goal

pub returns : goal.returns
returns c = runs_serve_together
