use Rattle.host_laws.proofs.OneCarrier.{one_carrier_gains}
use Rattle.host_laws.proofs.laws.one_carrier_gains.Goals as goal

pub returns : goal.returns
returns c = one_carrier_gains
