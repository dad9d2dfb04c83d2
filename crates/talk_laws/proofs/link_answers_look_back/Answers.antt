use Rattle.talk_laws.proofs.LinkAnswers.{link-answers_look_back, link-answers_grow}
use Rattle.talk_laws.proofs.link_answers_look_back.Goals as goal

pub returns : goal.returns
returns c = record { back = link-answers_look_back; grow = link-answers_grow }
