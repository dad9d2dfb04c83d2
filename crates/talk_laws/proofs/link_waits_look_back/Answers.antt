use Rattle.talk_laws.proofs.LinkWaits.{link-waits_look_back, link-waits_grow}
use Rattle.talk_laws.proofs.link_waits_look_back.Goals as goal

pub returns : goal.returns
returns c = record { back = link-waits_look_back; grow = link-waits_grow }
