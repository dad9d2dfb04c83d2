use Rattle.disconnection_laws.proofs.Meeting.{ends-are_met}
use Rattle.disconnection_laws.proofs.ends_are_met.Goals as goal

pub returns : goal.returns
returns c = ends-are_met c.copies_have_responses.ensures c.ends_are_answered.ensures
