use Rattle.capture.proofs.MoreLaws.{links-more}
use Rattle.capture.proofs.laws.packet_leads_links_on.Goals as goal

pub returns : goal.returns
returns c = links-more
