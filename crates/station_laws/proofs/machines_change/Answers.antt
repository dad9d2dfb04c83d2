use Rattle.station_laws.proofs.Striving.{machines_change}
use Rattle.station_laws.proofs.machines_change.Goals as goal

pub returns : goal.returns
returns g c U = machines_change U
