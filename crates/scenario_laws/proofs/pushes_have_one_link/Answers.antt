use Rattle.scenario_laws.proofs.OneLink.{pushes_have_one_link}
use Rattle.scenario_laws.proofs.pushes_have_one_link.Goals as goal

pub returns : goal.returns
returns c = pushes_have_one_link
