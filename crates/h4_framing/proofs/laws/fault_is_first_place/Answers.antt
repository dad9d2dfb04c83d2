use Rattle.h4_framing.proofs.FaultLemmas.{fault_first}
use Rattle.h4_framing.proofs.laws.fault_is_first_place.Goals as goal

pub returns : goal.returns
returns c = fault_first
