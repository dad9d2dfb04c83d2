use Rattle.identifier_laws.proofs.Hosts.{ends-are_asked_anew}
use Rattle.identifier_laws.proofs.ends_are_asked_anew.Goals as goal

pub returns : goal.returns
returns c = ends-are_asked_anew
