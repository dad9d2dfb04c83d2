use Rattle.capture.proofs.MoreLaws.{pdus-more}
use Rattle.capture.proofs.laws.packet_completes_pdus.Goals as goal

pub returns : goal.returns
returns c = pdus-more
