use Rattle.sdp_server.proofs.Written.{requests_again}
use Rattle.sdp_server.proofs.laws.written_is_read.Goals as goal

pub returns : goal.returns
returns c = requests_again
