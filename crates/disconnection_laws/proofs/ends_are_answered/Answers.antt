use Rattle.disconnection_laws.proofs.Waiting.{ends-are_answered}
use Rattle.disconnection_laws.proofs.ends_are_answered.Goals as goal

pub returns : goal.returns
returns c = ends-are_answered c.final_responses_end_waits.ensures
