use Rattle.push_model.proofs.LinkLaws.{asks_for_one_link}
use Rattle.push_model.proofs.laws.asks_for_one_link.Goals as goal

pub returns : goal.returns
returns c = asks_for_one_link
