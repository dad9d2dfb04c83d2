use Rattle.push_laws.proofs.TwoChannels.{opens-two_at_most}
use Rattle.push_laws.proofs.client_laws.opens_two_at_most.Goals as goal

pub returns : goal.returns
returns c = opens-two_at_most
