use Rattle.station_laws.proofs.Striving.{begins_as_first, starts_as_first}
use Rattle.station_laws.proofs.hosts_begin_as_stations.Goals as goal

pub returns-clause-begins : goal.returns-clause-begins
returns-clause-begins g c U = begins_as_first U

pub returns-clause-starts : goal.returns-clause-starts
returns-clause-starts g c U = starts_as_first U
