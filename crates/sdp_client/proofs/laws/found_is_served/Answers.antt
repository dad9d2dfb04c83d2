use Rattle.sdp_client.proofs.Served.{finds_what_is_served}
use Rattle.sdp_client.proofs.laws.found_is_served.Goals as goal

pub returns : goal.returns
returns c = finds_what_is_served
