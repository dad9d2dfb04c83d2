use Rattle.std.proofs.Common.{Option, ap, ◌∙◌, is_some}
use Rattle.rfcomm_frames.specs.Frames.{PlainFrame}
use Rattle.push_rooms.proofs.FrameLaws.{is_there}
use Rattle.push_rooms.proofs.waiting_frame.WaitingFrame.is_there.Goals as goal

pub returns : goal.returns
returns c = is_there c.self.inside.size c.self.inside.room.items c.self.invariant.1 ∙ ap (λ (o : Option PlainFrame). is_some o) c.self.view_is
