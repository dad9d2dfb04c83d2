use Rattle.lateness_laws.proofs.Meeting.{heard-options_are_last}
use Rattle.lateness_laws.proofs.heard_options_are_last.Goals as goal

pub returns : goal.returns
returns c = heard-options_are_last
