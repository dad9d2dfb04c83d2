use Rattle.request_laws.proofs.Joining.{joined_are_twined}
use Rattle.request_laws.proofs.joined_are_twined.Goals as goal

pub returns : goal.returns
returns c = joined_are_twined
