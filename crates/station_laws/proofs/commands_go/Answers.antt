use Rattle.station_laws.proofs.Striving.{commands_go}
use Rattle.station_laws.proofs.commands_go.Goals as goal

pub returns : goal.returns
returns g c U = commands_go U
