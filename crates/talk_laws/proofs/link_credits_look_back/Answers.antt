use Rattle.talk_laws.proofs.LinkCredits.{link-credits_look_back, link-credits_grow}
use Rattle.talk_laws.proofs.link_credits_look_back.Goals as goal

pub returns : goal.returns
returns c = record { back = link-credits_look_back; grow = link-credits_grow }
