use Rattle.push_model.proofs.CauseLaws.{first_causes_stay}
use Rattle.push_model.proofs.laws.first_causes_stay.Goals as goal

pub returns : goal.returns
returns c = first_causes_stay
