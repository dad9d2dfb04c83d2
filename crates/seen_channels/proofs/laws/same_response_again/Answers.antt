use Rattle.seen_channels.proofs.Repeated.{response_again}
use Rattle.seen_channels.proofs.laws.same_response_again.Goals as goal

pub returns : goal.returns
returns c = response_again
