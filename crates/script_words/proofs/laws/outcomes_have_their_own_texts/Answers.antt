use Rattle.script_words.proofs.OutcomesWritten.{one_outcome}
use Rattle.script_words.proofs.laws.outcomes_have_their_own_texts.Goals as goal

pub returns : goal.returns
returns c = one_outcome
