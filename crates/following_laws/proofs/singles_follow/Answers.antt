use Rattle.following_laws.proofs.Singles.{singles_follow}
use Rattle.following_laws.proofs.singles_follow.Goals as goal

pub returns : goal.returns
returns c = singles_follow
