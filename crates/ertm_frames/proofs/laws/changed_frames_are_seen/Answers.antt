use Rattle.ertm_frames.proofs.Spelled.{changed-refused}
use Rattle.ertm_frames.proofs.laws.changed_frames_are_seen.Goals as goal

pub returns : goal.returns
returns c = changed-refused
