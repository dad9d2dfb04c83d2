use Rattle.push_laws.proofs.Exchanges.{sends-behind_responses}
use Rattle.push_laws.proofs.client_laws.sends_behind_responses.Goals as goal

pub returns : goal.returns
returns c = sends-behind_responses
