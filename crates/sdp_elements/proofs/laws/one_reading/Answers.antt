use Rattle.sdp_elements.proofs.SpellingLaws.{reads_in_one_way}
use Rattle.sdp_elements.proofs.laws.one_reading.Goals as goal

pub returns : goal.returns
returns c = reads_in_one_way
