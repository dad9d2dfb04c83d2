use Rattle.std.proofs.Common.{Option, List, ℕ, take, IfSome, sym, subst}
use Rattle.rfcomm_frames.specs.Frames.{PlainFrame}
use Rattle.push_model.specs.Payloads.{IsShortest}
use Rattle.push_rooms.proofs.FrameLaws.{shortest_by}
use Rattle.push_rooms.proofs.waiting_frame.WaitingFrame.octets.Goals as goal

pub returns-clause-some : goal.returns-clause-some
returns-clause-some c =
    subst (λ (room : List ℕ). IfSome c.args.self.now (λ frame. IsShortest frame (take c.self.inside.size room))) (sym c.deref.ensures.value)
    (subst (λ (o : Option PlainFrame). IfSome o (λ frame. IsShortest frame (take c.self.inside.size c.self.inside.room.items))) c.self.view_is (shortest_by c.self.inside.size c.self.inside.room.items c.self.invariant.1))
