use Rattle.station_laws.proofs.Hearing.{pieces_are_heard}
use Rattle.station_laws.proofs.pieces_are_heard.Goals as goal

pub returns : goal.returns
returns g c U = pieces_are_heard U
