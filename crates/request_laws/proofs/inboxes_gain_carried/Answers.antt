use Rattle.request_laws.proofs.GainsCarried.{inboxes_gain_carried}
use Rattle.request_laws.proofs.inboxes_gain_carried.Goals as goal

pub returns : goal.returns
returns c = inboxes_gain_carried
