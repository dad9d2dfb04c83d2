use Rattle.h4_framing.proofs.AccountLemmas.{any_pieces}
use Rattle.h4_framing.proofs.laws.any_pieces_account.Goals as goal

pub returns : goal.returns
returns c = any_pieces
