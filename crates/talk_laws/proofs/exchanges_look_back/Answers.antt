use Rattle.talk_laws.proofs.Exchanges.{exchanges-look_back, exchanges-grow}
use Rattle.talk_laws.proofs.Queues.{queues-look_back}
use Rattle.talk_laws.proofs.exchanges_look_back.Goals as goal

pub returns : goal.returns
returns c = record { back = exchanges-look_back; queues = queues-look_back; grow = exchanges-grow }
