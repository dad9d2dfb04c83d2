use Rattle.capture.proofs.MoreLaws.{octets-in_parts}
use Rattle.capture.proofs.laws.octets_in_parts.Goals as goal

pub returns : goal.returns
returns c = octets-in_parts
