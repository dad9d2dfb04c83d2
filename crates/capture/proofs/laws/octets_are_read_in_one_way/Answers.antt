use Rattle.capture.proofs.CaptureLaws.{one_reading}
use Rattle.capture.proofs.laws.octets_are_read_in_one_way.Goals as goal

pub returns : goal.returns
returns c = one_reading
