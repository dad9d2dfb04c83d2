use Rattle.configuration_laws.proofs.Leaving.{ends-are_asked_for}
use Rattle.configuration_laws.proofs.ends_are_asked_for.Goals as goal

pub returns : goal.returns
returns c = ends-are_asked_for
