use Rattle.following_laws.proofs.Links.{hosts_gain_following}
use Rattle.following_laws.proofs.hosts_gain_following.Goals as goal

pub returns : goal.returns
returns c = hosts_gain_following
