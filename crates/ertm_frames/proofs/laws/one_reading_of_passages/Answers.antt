use Rattle.ertm_frames.proofs.Picked.{numbers-are_one, poll_waits-is_right}
use Rattle.ertm_frames.proofs.laws.one_reading_of_passages.Goals as goal

pub returns : goal.returns
returns c = record { numbers = numbers-are_one; waits = poll_waits-is_right }
