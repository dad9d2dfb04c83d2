use Rattle.capture.proofs.MoreLaws.{links-in_parts}
use Rattle.capture.proofs.laws.links_in_parts.Goals as goal

pub returns : goal.returns
returns c = links-in_parts
