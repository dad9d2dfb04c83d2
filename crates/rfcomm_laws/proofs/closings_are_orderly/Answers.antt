use Rattle.rfcomm_laws.proofs.Crossings.{closings-are_orderly}
use Rattle.rfcomm_laws.proofs.closings_are_orderly.Goals as goal

pub returns : goal.returns
returns c = closings-are_orderly
