use Rattle.push_laws.proofs.GivenUpSteps.{sends-one_push}
use Rattle.push_laws.proofs.client_laws.sends_one_push.Goals as goal

pub returns : goal.returns
returns c = sends-one_push
