use Rattle.refusal_laws.proofs.Refused.{refusals_have_results}
use Rattle.refusal_laws.proofs.refusals_have_results.Goals as goal

pub returns : goal.returns
returns c policy occurrences = refusals_have_results policy occurrences
