use Rattle.leaving_laws.proofs.Paying.{options-of_left_are_counted}
use Rattle.leaving_laws.proofs.options_of_left_are_counted.Goals as goal

pub returns : goal.returns
returns c = options-of_left_are_counted c.met_is_heeded.ensures
