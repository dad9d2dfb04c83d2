use Rattle.talk_laws.proofs.Requests.{requests-look_back}
use Rattle.talk_laws.proofs.requests_look_back.Goals as goal

pub returns : goal.returns
returns c = requests-look_back
