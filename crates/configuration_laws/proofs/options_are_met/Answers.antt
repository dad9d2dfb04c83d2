use Rattle.configuration_laws.proofs.Meeting.{options-are_met}
use Rattle.configuration_laws.proofs.options_are_met.Goals as goal

pub returns : goal.returns
returns c = options-are_met c.copies_have_responses.ensures c.final_responses_end_waits.ensures
