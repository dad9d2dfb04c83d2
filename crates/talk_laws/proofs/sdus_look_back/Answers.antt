use Rattle.talk_laws.proofs.Sdus.{sdus-look_back, sdus-grow}
use Rattle.talk_laws.proofs.sdus_look_back.Goals as goal

pub returns : goal.returns
returns c = record { back = sdus-look_back; grow = sdus-grow }
