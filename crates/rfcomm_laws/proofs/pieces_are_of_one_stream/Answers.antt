use Rattle.rfcomm_laws.proofs.Splitting.{pieces-are_of_one_stream}
use Rattle.rfcomm_laws.proofs.pieces_are_of_one_stream.Goals as goal

pub returns : goal.returns
returns c = pieces-are_of_one_stream
