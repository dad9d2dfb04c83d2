use Rattle.host_model.proofs.Spelled.{octets_are_right}
use Rattle.host_model.proofs.laws.octets_are_right.Goals as goal

pub returns : goal.returns
returns c = octets_are_right
