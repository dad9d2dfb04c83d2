use Rattle.channel_laws.proofs.Concluding.{final-responses_end_waits}
use Rattle.channel_laws.proofs.laws.final_responses_end_waits.Goals as goal

pub returns : goal.returns
returns c = final-responses_end_waits
