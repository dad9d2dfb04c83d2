use Rattle.station_laws.proofs.Answering.{answers_are_heard}
use Rattle.station_laws.proofs.answers_are_heard.Goals as goal

pub returns : goal.returns
returns g c U = answers_are_heard U
