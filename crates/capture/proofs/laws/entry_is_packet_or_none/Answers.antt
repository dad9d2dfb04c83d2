use Rattle.capture.proofs.MoreLaws.{moves-more}
use Rattle.capture.proofs.laws.entry_is_packet_or_none.Goals as goal

pub returns : goal.returns
returns c = moves-more
