use Rattle.configuration_laws.proofs.Meeting.{staying-remains}
use Rattle.configuration_laws.proofs.staying_remains.Goals as goal

pub returns : goal.returns
returns c = staying-remains c.ends_are_asked_for.ensures
