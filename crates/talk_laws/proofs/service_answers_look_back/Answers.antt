use Rattle.talk_laws.proofs.ServiceAnswers.{service_answers-look_back}
use Rattle.talk_laws.proofs.service_answers_look_back.Goals as goal

pub returns : goal.returns
returns c = service_answers-look_back
