use Rattle.line_laws.proofs.Linking.{calls_are_seen, ends_are_seen}
use Rattle.line_laws.proofs.links_are_seen.Goals as goal

pub returns-clause-calls : goal.returns-clause-calls
returns-clause-calls g c U = calls_are_seen U

pub returns-clause-ends : goal.returns-clause-ends
returns-clause-ends g c U = ends_are_seen U
