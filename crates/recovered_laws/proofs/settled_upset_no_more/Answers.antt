use Rattle.recovered_laws.proofs.Settling.{settled-upset_no_more}
use Rattle.recovered_laws.proofs.settled_upset_no_more.Goals as goal

pub returns : goal.returns
returns c = settled-upset_no_more
