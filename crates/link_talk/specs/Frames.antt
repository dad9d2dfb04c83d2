-- What a reader of RFCOMM makes of one SDU.
use Rattle.std.specs.Prelude.{ℕ, List, [], Option, Some, None, if◌then◌else◌}
use Rattle.rfcomm_frames.specs.declared.connection.Role.{Role}
use Rattle.rfcomm_frames.specs.FrameReading.{frame_answer}
use Rattle.rfcomm_frames.specs.Multiplexing.{Framed, framed, Connections, carries_on, information}

-- the frame that it is
abbrev pub frame_in : Role → List ℕ → Option Framed
frame_in from sdu = framed from (frame_answer sdu)

-- the octets that it brings
abbrev pub octets_heard : ℕ → Role → Connections → Option Framed → List ℕ
octets_heard dlci way now None = []
octets_heard dlci way now (Some f) = if carries_on now then information dlci way f else []
