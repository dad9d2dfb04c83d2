use Rattle.capture.proofs.FurtherLaws.{entry_links-more}
use Rattle.capture.proofs.laws.entry_leads_links_on.Goals as goal

pub returns : goal.returns
returns c = entry_links-more
