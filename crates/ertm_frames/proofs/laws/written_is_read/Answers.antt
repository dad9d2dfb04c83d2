use Rattle.ertm_frames.proofs.Spelled.{written-read}
use Rattle.ertm_frames.proofs.laws.written_is_read.Goals as goal

pub returns : goal.returns
returns c = written-read
