use Rattle.rfcomm_frames.proofs.OneAnswer.{written-read}
use Rattle.rfcomm_frames.proofs.OneControl.{written-control-read}
use Rattle.rfcomm_frames.proofs.laws.written_is_read.Goals as goal

pub returns : goal.returns
returns c = record { frame = written-read; control = written-control-read }
