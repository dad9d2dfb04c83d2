use Rattle.rfcomm_frames.proofs.OneAnswer.{changes-seen, octets-seen}
use Rattle.rfcomm_frames.proofs.laws.changed_frames_are_seen.Goals as goal

pub returns : goal.returns
returns c = record { bits = changes-seen; octets = octets-seen }
