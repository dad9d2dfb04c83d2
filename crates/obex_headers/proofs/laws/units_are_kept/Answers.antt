use Rattle.obex_headers.proofs.Texts.{units_again}
use Rattle.obex_headers.proofs.laws.units_are_kept.Goals as goal

pub returns : goal.returns
returns c = units_again
