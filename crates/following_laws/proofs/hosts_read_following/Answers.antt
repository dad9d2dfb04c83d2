use Rattle.following_laws.proofs.Links.{hosts_read_following}
use Rattle.following_laws.proofs.hosts_read_following.Goals as goal

pub returns : goal.returns
returns c = hosts_read_following
