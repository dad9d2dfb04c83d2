use Rattle.ertm_frames.proofs.Joined.{one-sdu, one-sdu_list}
use Rattle.ertm_frames.proofs.laws.one_reading_of_segments.Goals as goal

pub returns : goal.returns
returns c = record { sdu = one-sdu; list = one-sdu_list }
