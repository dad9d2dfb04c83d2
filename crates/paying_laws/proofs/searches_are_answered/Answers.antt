use Rattle.paying_laws.proofs.Pairs.{searches-are_answered}
use Rattle.paying_laws.proofs.searches_are_answered.Goals as goal

pub returns : goal.returns
returns c = searches-are_answered
