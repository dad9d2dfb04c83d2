use Rattle.talk_laws.proofs.Setups.{setups-look_back}
use Rattle.talk_laws.proofs.setups_look_back.Goals as goal

pub returns : goal.returns
returns c = setups-look_back
