use Rattle.capture.proofs.MoreLaws.{outstanding-more}
use Rattle.capture.proofs.laws.packet_changes_outstanding.Goals as goal

pub returns : goal.returns
returns c = outstanding-more
