use Rattle.sdp_client.proofs.Joining.{parts_join}
use Rattle.sdp_client.proofs.laws.parts_join.Goals as goal

pub returns : goal.returns
returns c = parts_join
