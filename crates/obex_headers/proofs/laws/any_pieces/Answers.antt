use Rattle.obex_headers.proofs.AssemblerLaws as laws
use Rattle.obex_headers.proofs.laws.any_pieces.Goals as goal

pub returns : goal.returns
returns c = laws.any_pieces
