use Rattle.rfcomm_model.proofs.Reading.{sides-read}
use Rattle.rfcomm_model.proofs.Flooding.{unflooded-sides_read}
use Rattle.rfcomm_model.proofs.laws.sides_read.Goals as goal

pub returns-clause-room : goal.returns-clause-room
returns-clause-room c = sides-read

pub returns-clause-unflooded : goal.returns-clause-unflooded
returns-clause-unflooded c = unflooded-sides_read
