use Rattle.wire_model.proofs.Reading.{traces_read}
use Rattle.wire_model.proofs.laws.traces_are_read_in_one_way.Goals as goal

pub returns : goal.returns
returns c first second cut other fit fit' is is' e = traces_read first second cut other fit fit' is is' e
