use Rattle.push_laws.proofs.SmallAnswers.{lends-few_octets}
use Rattle.push_laws.proofs.laws.lends_few_octets.Goals as goal

pub returns : goal.returns
returns c = lends-few_octets
