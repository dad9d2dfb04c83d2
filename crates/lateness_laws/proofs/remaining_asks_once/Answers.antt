use Rattle.lateness_laws.proofs.Remaining.{remaining-asks_once}
use Rattle.lateness_laws.proofs.remaining_asks_once.Goals as goal

pub returns : goal.returns
returns c = remaining-asks_once
