use Rattle.btsnoop.proofs.AccountLemmas.{any_pieces}
use Rattle.btsnoop.proofs.laws.any_pieces_are_read.Goals as goal

pub returns : goal.returns
returns c = any_pieces
