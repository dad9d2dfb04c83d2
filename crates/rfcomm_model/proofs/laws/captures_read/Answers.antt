use Rattle.rfcomm_model.proofs.Captured.{captures-read, unflooded-captures_read}
use Rattle.rfcomm_model.proofs.laws.captures_read.Goals as goal

pub returns-clause-room : goal.returns-clause-room
returns-clause-room c = captures-read

pub returns-clause-unflooded : goal.returns-clause-unflooded
returns-clause-unflooded c = unflooded-captures_read
