use Rattle.sdp_client.proofs.Served.{finds_the_server}
use Rattle.sdp_client.proofs.laws.server_is_found.Goals as goal

pub returns : goal.returns
returns c = finds_the_server
