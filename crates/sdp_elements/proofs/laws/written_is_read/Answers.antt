use Rattle.sdp_elements.proofs.SpellingLaws.{reads_again, reads_elements_again}
use Rattle.sdp_elements.proofs.laws.written_is_read.Goals as goal

pub returns : goal.returns
returns c = record { trees = reads_again; elements = reads_elements_again }
