-- How far a data link connection is (TS 07.10, 5.4.1 and 5.4.2; RFCOMM 1.2, 5.2).
use Rattle.std.specs.Prelude.{Bool, true, false, if◌then◌else◌}
use Rattle.rfcomm_frames.specs.declared.frame.MuxKind.{MuxKind}
use Rattle.rfcomm_frames.specs.declared.frame.MuxKind.TheVariants.{Sabm, Ua, Dm, Disc, Uih}
use Rattle.rfcomm_frames.specs.declared.connection.Role.{Role}
use Rattle.rfcomm_frames.specs.declared.connection.Role.TheVariants.{Initiator, Responder}
use Rattle.rfcomm_frames.specs.declared.connection.Dlc.{Dlc}
use Rattle.rfcomm_frames.specs.declared.connection.Dlc.TheVariants.{Idle, Asked, Open, Ended}
use Rattle.rfcomm_frames.specs.Frames.{PlainFrame}

abbrev pub other_role : Role → Role
other_role Initiator = Responder
other_role Responder = Initiator

-- the initiator asks for it with SABM
abbrev pub asked : Dlc → Dlc
asked Idle = Asked
asked Asked = Asked
asked Open = Open
asked Ended = Ended

-- the responder agrees with UA
abbrev pub agreed : Dlc → Dlc
agreed Idle = Idle
agreed Asked = Open
agreed Open = Open
agreed Ended = Ended

-- DISC from either side closes it; from the initiator, which need not wait for an answer, also what it asked for
abbrev pub left : Role → Dlc → Dlc
left from Idle = Idle
left Initiator Asked = Ended
left Responder Asked = Asked
left from Open = Ended
left from Ended = Ended

-- DISC of this side closes the connection
abbrev pub is_left : Role → Dlc → Bool
is_left from Idle = false
is_left Initiator Asked = true
is_left Responder Asked = false
is_left from Open = true
is_left from Ended = false

-- what it is after a frame of a kind with the P/F bit; without that bit none of these frames counts
abbrev pub turned : Role → MuxKind → Dlc → Dlc
turned Initiator Sabm dlc = asked dlc
turned Responder Sabm dlc = dlc
turned Initiator Ua dlc = dlc
turned Responder Ua dlc = agreed dlc
turned from Dm dlc = dlc
turned from Disc dlc = left from dlc
turned from Uih dlc = dlc

abbrev pub dlc_after : Role → PlainFrame → Dlc → Dlc
dlc_after from frame dlc = if frame.pf then turned from frame.kind dlc else dlc

abbrev pub is_open : Dlc → Bool
is_open Idle = false
is_open Asked = false
is_open Open = true
is_open Ended = false

abbrev pub is_ended : Dlc → Bool
is_ended Idle = false
is_ended Asked = false
is_ended Open = false
is_ended Ended = true
