use Rattle.rfcomm_model.proofs.Ended.{closed-sides_read, unflooded-closed_sides_read}
use Rattle.rfcomm_model.proofs.laws.closed_sides_read.Goals as goal

pub returns-clause-room : goal.returns-clause-room
returns-clause-room c = closed-sides_read

pub returns-clause-unflooded : goal.returns-clause-unflooded
returns-clause-unflooded c = unflooded-closed_sides_read
