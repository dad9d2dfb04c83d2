use Rattle.std.proofs.Common.{◌≡◌, length}
use Rattle.rfcomm_frames.specs.FrameReading.{messages}
use Rattle.rfcomm_model.specs.Hearing.{hears_messages}
use Rattle.rfcomm_mux.proofs.mux.Mux.hears_messages.Given as goal

-- what is left to be heard brings it to where all of it does
abbrev pub invariant-loop-self : goal.invariant-loop-self
invariant-loop-self l = hears_messages (messages l.rest) l.self ≡ hears_messages (messages l.fn.octets) l.fn.self

abbrev pub decreases-loop-self : goal.decreases-loop-self
decreases-loop-self l = length l.rest
