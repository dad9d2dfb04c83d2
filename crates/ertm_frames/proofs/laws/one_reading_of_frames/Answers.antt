use Rattle.ertm_frames.proofs.Picked.{picked-is_right, picked-is_one}
use Rattle.ertm_frames.proofs.Longest.{joined-is_right, longest-is_one}
use Rattle.ertm_frames.proofs.WorkedOut.{sdus-are_spelled}
use Rattle.ertm_frames.proofs.laws.one_reading_of_frames.Goals as goal

pub returns : goal.returns
returns c = record {
  picked = picked-is_right;
  only_picked = picked-is_one;
  joined = joined-is_right;
  only_joined = longest-is_one;
  spelled = sdus-are_spelled;
}
