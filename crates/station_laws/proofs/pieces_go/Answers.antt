use Rattle.station_laws.proofs.Striving.{pieces_go}
use Rattle.station_laws.proofs.pieces_go.Goals as goal

pub returns : goal.returns
returns g c U = pieces_go U
