use Rattle.channel_laws.proofs.Trusting.{peers-have_accepted}
use Rattle.channel_laws.proofs.laws.pipes.peers_have_accepted.Goals as goal

pub returns : goal.returns
returns c = peers-have_accepted
