use Rattle.talk_laws.proofs.Silences.{silences-look_back, silences-grow}
use Rattle.talk_laws.proofs.silences_look_back.Goals as goal

pub returns : goal.returns
returns c = record { back = silences-look_back; grow = silences-grow }
