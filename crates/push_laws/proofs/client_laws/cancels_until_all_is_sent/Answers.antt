use Rattle.push_laws.proofs.Cancelling.{cancels-until_all_is_sent}
use Rattle.push_laws.proofs.client_laws.cancels_until_all_is_sent.Goals as goal

pub returns : goal.returns
returns c = cancels-until_all_is_sent
