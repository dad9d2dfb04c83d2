use Rattle.talk_laws.proofs.Waits.{waits-look_back, counts-grow, waits-grow}
use Rattle.talk_laws.proofs.waits_look_back.Goals as goal

pub returns : goal.returns
returns c = record { back = waits-look_back; counts = counts-grow; grow = waits-grow }
