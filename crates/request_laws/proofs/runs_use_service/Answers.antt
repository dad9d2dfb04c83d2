use Rattle.request_laws.proofs.AsTold.{runs_use_service}
use Rattle.request_laws.proofs.runs_use_service.Goals as goal

pub returns : goal.returns
returns c = runs_use_service
