use Rattle.station_laws.proofs.Running.{worlds_answer}
use Rattle.station_laws.proofs.worlds_answer.Goals as goal

pub returns : goal.returns
returns g c U V = worlds_answer U V
