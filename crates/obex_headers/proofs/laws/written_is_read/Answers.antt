use Rattle.obex_headers.proofs.WritingLaws.{encoded_again}
use Rattle.obex_headers.proofs.laws.written_is_read.Goals as goal

pub returns : goal.returns
returns c = encoded_again
