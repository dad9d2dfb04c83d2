use Rattle.following_laws.proofs.OneChannel.{one_channel_follows}
use Rattle.following_laws.proofs.one_channel_follows.Goals as goal

pub returns : goal.returns
returns c = one_channel_follows
