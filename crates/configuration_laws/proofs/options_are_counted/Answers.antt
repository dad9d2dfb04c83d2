use Rattle.configuration_laws.proofs.Meeting.{options-are_counted}
use Rattle.configuration_laws.proofs.options_are_counted.Goals as goal

pub returns : goal.returns
returns c = options-are_counted c.disturbances_are_counted.ensures c.met_is_heeded.ensures c.options_are_met.ensures
