use Rattle.pair_laws.proofs.Damaging.{changes-are_seen}
use Rattle.pair_laws.proofs.changes_are_seen.Goals as goal

pub returns : goal.returns
returns c = changes-are_seen
