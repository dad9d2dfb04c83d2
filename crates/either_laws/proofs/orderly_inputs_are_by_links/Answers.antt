use Rattle.either_laws.proofs.ByLinks.{orderly_inputs_are_by_links}
use Rattle.either_laws.proofs.orderly_inputs_are_by_links.Goals as goal

pub returns : goal.returns
returns c = orderly_inputs_are_by_links
