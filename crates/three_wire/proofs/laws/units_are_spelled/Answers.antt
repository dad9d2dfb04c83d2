use Rattle.three_wire.proofs.Carrying.{units_spelled}
use Rattle.three_wire.proofs.laws.units_are_spelled.Goals as goal

pub returns : goal.returns
returns c packets = units_spelled packets
