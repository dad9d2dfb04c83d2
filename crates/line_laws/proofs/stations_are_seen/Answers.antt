use Rattle.line_laws.proofs.Seeing.{stations_are_seen, strives_are_seen}
use Rattle.line_laws.proofs.stations_are_seen.Goals as goal

pub returns-clause-starts : goal.returns-clause-starts
returns-clause-starts g c U = stations_are_seen U

pub returns-clause-strives : goal.returns-clause-strives
returns-clause-strives g c U = strives_are_seen U
