use Rattle.talk_laws.proofs.Carrying.{carriages-look_back}
use Rattle.talk_laws.proofs.carriages_look_back.Goals as goal

pub returns : goal.returns
returns c = carriages-look_back
