use Rattle.opening_laws.proofs.Opening.{open-is_what_is_said}
use Rattle.opening_laws.proofs.laws.open_is_what_is_said.Goals as goal

pub returns : goal.returns
returns c = open-is_what_is_said
