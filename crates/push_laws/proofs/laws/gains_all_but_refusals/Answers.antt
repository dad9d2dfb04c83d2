use Rattle.push_laws.proofs.Marking.{gains-all_but_refusals}
use Rattle.push_laws.proofs.laws.gains_all_but_refusals.Goals as goal

pub returns : goal.returns
returns c = gains-all_but_refusals
