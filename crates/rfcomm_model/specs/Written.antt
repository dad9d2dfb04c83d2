-- The frames that a multiplexer sends (TS 07.10, 5.2.1.2 and 5.4.6.3; RFCOMM 1.2, 5.1.3, 5.5 and 6.5).
use Rattle.std.specs.Prelude.{ℕ, Bool, true, false, not, List, [], Some, None}
use Rattle.rfcomm_frames.specs.declared.frame.MuxKind.{MuxKind}
use Rattle.rfcomm_frames.specs.declared.frame.MuxKind.TheVariants.{Uih}
use Rattle.rfcomm_frames.specs.declared.connection.Role.{Role}
use Rattle.rfcomm_frames.specs.declared.connection.Role.TheVariants.{Initiator, Responder}
use Rattle.rfcomm_frames.specs.Frames.{PlainFrame}
use Rattle.rfcomm_frames.specs.Controls.{PlainControl, written}

-- the C/R bit of commands and of UIH frames is 1 at the initiator, that of responses is 1 at the responder
abbrev pub commanding : Role → Bool
commanding Initiator = true
commanding Responder = false

-- SABM and DISC, with P
abbrev pub command_frame : Role → MuxKind → ℕ → PlainFrame
command_frame role kind dlci = record { dlci = dlci; cr = commanding role; kind = kind; pf = true; credits = None; octets = [] }

-- UA and DM, with F
abbrev pub response_frame : Role → MuxKind → ℕ → PlainFrame
response_frame role kind dlci = record { dlci = dlci; cr = not (commanding role); kind = kind; pf = true; credits = None; octets = [] }

-- a grant, in an empty UIH frame of its own
abbrev pub grant_frame : Role → ℕ → ℕ → PlainFrame
grant_frame role dlci n = record { dlci = dlci; cr = commanding role; kind = Uih; pf = true; credits = Some n; octets = [] }

-- information on the user channel
abbrev pub data_frame : Role → ℕ → List ℕ → PlainFrame
data_frame role dlci octets = record { dlci = dlci; cr = commanding role; kind = Uih; pf = false; credits = None; octets = octets }

-- one control message, in UIH on the control channel
abbrev pub message_frame : Role → List ℕ → PlainFrame
message_frame role octets = data_frame role 0 octets

abbrev pub control_frame : Role → PlainControl → PlainFrame
control_frame role control = message_frame role (written control)
