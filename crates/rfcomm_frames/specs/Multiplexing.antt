-- What the SDUs on an L2CAP channel of PSM 0x0003 carry for one user channel (RFCOMM 1.2, 5 and 6.5; TS 07.10, 5.4).
use Rattle.std.specs.Prelude.{ℕ, ◌+◌, ◌/◌, ◌%◌, ◌==◌, ◌&&◌, ◌||◌, not, Bool, true, false, List, [], ◌∷◌, ◌++◌, sum_by, Option, Some, None, Result, Ok, Err, if◌then◌else◌}
use Rattle.std.specs.List.{filter_map, flat_map}
use Rattle.rfcomm_frames.specs.declared.frame.MuxKind.{MuxKind}
use Rattle.rfcomm_frames.specs.declared.frame.MuxKind.TheVariants.{Sabm, Ua, Dm, Disc, Uih}
use Rattle.rfcomm_frames.specs.declared.connection.Role.{Role}
use Rattle.rfcomm_frames.specs.declared.connection.Role.TheVariants.{Initiator, Responder}
use Rattle.rfcomm_frames.specs.declared.connection.Dlc.{Dlc}
use Rattle.rfcomm_frames.specs.declared.connection.Dlc.TheVariants.{Idle, Asked, Open, Ended}
use Rattle.rfcomm_frames.specs.Frames.{PlainFrame, carries}
use Rattle.rfcomm_frames.specs.Answers.{Answer}
use Rattle.rfcomm_frames.specs.Controls.{PlainControl, pn, msc, test, rpn, rls, nsc, other}
use Rattle.rfcomm_frames.specs.FrameReading.{frame_answer, MessageAnswer, messages, is_empty}
use Rattle.rfcomm_frames.specs.Connections.{dlc_after, is_open, is_ended, other_role}

-- an SDU on the channel, and the side that it came from
pub record Passed : Type 0 where
  pub from : Role
  pub sdu : List ℕ

-- a frame, and the side that it came from
pub record Framed : Type 0 where
  pub from : Role
  pub frame : PlainFrame

abbrev pub framed : Role → Answer → Option Framed
framed from (Ok frame) = Some (record { from = from; frame = frame })
framed from (Err refusal) = None

-- the frames on the channel; an SDU that is refused is passed over
abbrev pub frames : List Passed → List Framed
frames passed = filter_map (λ (p : Passed). framed p.from (frame_answer p.sdu)) passed

-- ---- the connections, in one pass

-- the control channel and the user channel
pub record Connections : Type 0 where
  pub control : Dlc
  pub user : Dlc

abbrev pub no_connections : Connections
no_connections = record { control = Idle; user = Idle }

-- one of them after a frame: it counts on its own channel alone
abbrev pub passing : ℕ → Framed → Dlc → Dlc
passing dlci f dlc = if f.frame.dlci == dlci then dlc_after f.from f.frame dlc else dlc

abbrev pub connections_after : ℕ → Connections → Framed → Connections
connections_after dlci c f = record { control = passing 0 f c.control; user = passing dlci f c.user }

-- Information on the user channel counts while that channel is open, and the multiplexer was not closed by a DISC on
-- its control channel.
abbrev pub carries_on : Connections → Bool
carries_on c = is_open c.user && not (is_ended c.control)

-- one of the two was closed: no more credits are counted
abbrev pub is_over : Connections → Bool
is_over c = is_ended c.user || is_ended c.control

-- ---- what a frame brings

abbrev pub is_role : Role → Role → Bool
is_role Initiator Initiator = true
is_role Initiator Responder = false
is_role Responder Initiator = false
is_role Responder Responder = true

-- a UIH frame of a side on a channel
abbrev pub is_data : ℕ → Role → Framed → Bool
is_data dlci from f = is_role from f.from && ((f.frame.dlci == dlci) && carries f.frame.kind)

-- the information that a side sends on a channel
abbrev pub information : ℕ → Role → Framed → List ℕ
information dlci from f = if is_data dlci from f then f.frame.octets else []

-- ---- the octets, in one pass

abbrev pub carried : ℕ → Role → Connections → List Framed → List ℕ
carried dlci from c [] = []
carried dlci from c (f ∷ fs) = (if carries_on c then information dlci from f else []) ++ carried dlci from (connections_after dlci c f) fs

-- ---- the credits, in one pass

-- what a PN message for the user channel grants: the low three bits of its last octet (RFCOMM 1.2, 5.5.3). It is for
-- the channel that the low six bits of its first octet name.
abbrev pub stated_by : ℕ → MessageAnswer → ℕ
stated_by dlci (Ok (pn command d flow priority timer frame retransmissions credits)) = if d % 64 == dlci then credits % 8 else 0
stated_by dlci (Ok (msc command d signals)) = 0
stated_by dlci (Ok (test command octets)) = 0
stated_by dlci (Ok (rpn command value)) = 0
stated_by dlci (Ok (rls command value)) = 0
stated_by dlci (Ok (nsc kind)) = 0
stated_by dlci (Ok (other kind value)) = 0
stated_by dlci (Err refusal) = 0

abbrev pub credit_octet : Option ℕ → ℕ
credit_octet None = 0
credit_octet (Some n) = n

-- What a side is granted by a frame of its peer: by PN messages until one of the connections was closed, and by the
-- credit octet of a UIH frame on the user channel while that channel carries octets (RFCOMM 1.2, 6.5).
abbrev pub granted_by : ℕ → Role → Connections → Framed → ℕ
granted_by dlci side c f =
    (if is_data 0 (other_role side) f && not (is_over c) then sum_by (stated_by dlci) (messages f.frame.octets) else 0)
    + (if is_data dlci (other_role side) f && carries_on c then credit_octet f.frame.credits else 0)

abbrev pub granted : ℕ → Role → Connections → List Framed → ℕ
granted dlci side c [] = 0
granted dlci side c (f ∷ fs) = granted_by dlci side c f + granted dlci side (connections_after dlci c f) fs

-- each UIH frame with information that it sends on the user channel costs one credit
abbrev pub spent_by : ℕ → Role → Framed → ℕ
spent_by dlci side f = if is_empty (information dlci side f) then 0 else 1

abbrev pub spent : ℕ → Role → List Framed → ℕ
spent dlci side fs = sum_by (spent_by dlci side) fs
