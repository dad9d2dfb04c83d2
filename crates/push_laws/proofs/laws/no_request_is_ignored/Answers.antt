use Rattle.push_laws.proofs.Turns.{no-request_is_ignored}
use Rattle.push_laws.proofs.laws.no_request_is_ignored.Goals as goal

pub returns : goal.returns
returns c = no-request_is_ignored
