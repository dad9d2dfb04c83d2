use Rattle.capture.proofs.MoreLaws.{moves-in_parts}
use Rattle.capture.proofs.laws.packets_in_parts.Goals as goal

pub returns : goal.returns
returns c = moves-in_parts
