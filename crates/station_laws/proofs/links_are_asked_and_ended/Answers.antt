use Rattle.station_laws.proofs.Striving.{links_are_asked, links_are_ended}
use Rattle.station_laws.proofs.links_are_asked_and_ended.Goals as goal

pub returns-clause-asked : goal.returns-clause-asked
returns-clause-asked g c U = links_are_asked U

pub returns-clause-ended : goal.returns-clause-ended
returns-clause-ended g c U = links_are_ended U
