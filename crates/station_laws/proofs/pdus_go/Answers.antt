use Rattle.station_laws.proofs.Striving.{pdus_go}
use Rattle.station_laws.proofs.pdus_go.Goals as goal

pub returns : goal.returns
returns g c U = pdus_go U
