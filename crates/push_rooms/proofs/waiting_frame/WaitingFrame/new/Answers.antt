use Rattle.push_rooms.proofs.FrameLaws.{none_in}
use Rattle.push_rooms.proofs.waiting_frame.WaitingFrame.new.Goals as goal

pub returns : goal.returns
returns c = none_in
