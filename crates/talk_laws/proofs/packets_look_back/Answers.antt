use Rattle.talk_laws.proofs.Packets.{packets-look_back, packets-grow}
use Rattle.talk_laws.proofs.packets_look_back.Goals as goal

pub returns : goal.returns
returns c = record { back = packets-look_back; grow = packets-grow }
