use Rattle.lateness_laws.proofs.Meeting.{no-options_come_late}
use Rattle.lateness_laws.proofs.no_options_come_late.Goals as goal

pub returns : goal.returns
returns c = no-options_come_late c.heard_options_are_last.ensures
