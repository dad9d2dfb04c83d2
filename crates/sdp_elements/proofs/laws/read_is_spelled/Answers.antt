use Rattle.sdp_elements.proofs.SpellingLaws.{reads_what_is_spelled}
use Rattle.sdp_elements.proofs.laws.read_is_spelled.Goals as goal

pub returns : goal.returns
returns c = reads_what_is_spelled
