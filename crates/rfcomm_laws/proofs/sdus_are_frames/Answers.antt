use Rattle.rfcomm_laws.proofs.Spelling.{sdus-are_frames}
use Rattle.rfcomm_laws.proofs.sdus_are_frames.Goals as goal

pub returns : goal.returns
returns c = sdus-are_frames
