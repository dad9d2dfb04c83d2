use Rattle.pair_laws.proofs.Forgone.{forgone-takes_no_frame}
use Rattle.pair_laws.proofs.forgone_takes_no_frame.Goals as goal

pub returns : goal.returns
returns c = forgone-takes_no_frame
