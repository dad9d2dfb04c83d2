use Rattle.session_laws.proofs.BlamesNone.{pairs_blame_none}
use Rattle.session_laws.proofs.pairs_blame_none.Goals as goal

pub returns : goal.returns
returns c = pairs_blame_none
