-- Where the multiplexer of a side is closed in order, read off the frames that the side heard and sent (TS 07.10, 5.4.2;
-- RFCOMM 1.2, 5.2): by DISC of the peer on an open channel, by DM that is no answer to an own DISC, or by the answer to
-- the own DISC on the control channel.
use Rattle.std.specs.Prelude.{ℕ, ◌==◌, ◌&&◌, ◌||◌, not, Bool, true, false, List, [], ◌∷◌, if◌then◌else◌}
use Rattle.rfcomm_frames.specs.declared.frame.MuxKind.{MuxKind}
use Rattle.rfcomm_frames.specs.declared.frame.MuxKind.TheVariants.{Sabm, Ua, Dm, Disc, Uih}
use Rattle.rfcomm_frames.specs.declared.connection.Role.{Role}
use Rattle.rfcomm_frames.specs.declared.closing.Closing.{Closing}
use Rattle.rfcomm_frames.specs.declared.closing.Closing.TheVariants.{NotBegun, LeavingUser, UserLeft, LeavingControl}
use Rattle.rfcomm_frames.specs.Connections.{is_left}
use Rattle.rfcomm_frames.specs.Multiplexing.{Framed, Connections, no_connections, connections_after, is_role}

-- the own DISC goes out, with P
abbrev pub closing_said : ℕ → MuxKind → ℕ → Bool → Closing → Closing
closing_said dlci Sabm n pf c = c
closing_said dlci Ua n pf c = c
closing_said dlci Dm n pf c = c
closing_said dlci Disc n pf c = if pf then (if n == 0 then LeavingControl else if n == dlci then LeavingUser else c) else c
closing_said dlci Uih n pf c = c

-- the own DISC on the user channel is answered
abbrev pub once_answered : Closing → Closing
once_answered NotBegun = NotBegun
once_answered LeavingUser = UserLeft
once_answered UserLeft = UserLeft
once_answered LeavingControl = LeavingControl

abbrev pub answered_on : ℕ → ℕ → Closing → Closing
answered_on dlci n c = if n == 0 then c else if n == dlci then once_answered c else c

-- by UA with F, and by any DM
abbrev pub closing_heard : ℕ → MuxKind → ℕ → Bool → Closing → Closing
closing_heard dlci Sabm n pf c = c
closing_heard dlci Ua n pf c = if pf then answered_on dlci n c else c
closing_heard dlci Dm n pf c = answered_on dlci n c
closing_heard dlci Disc n pf c = c
closing_heard dlci Uih n pf c = c

abbrev pub awaits_user : Closing → Bool
awaits_user NotBegun = false
awaits_user LeavingUser = true
awaits_user UserLeft = false
awaits_user LeavingControl = false

abbrev pub awaits_control : Closing → Bool
awaits_control NotBegun = false
awaits_control LeavingUser = false
awaits_control UserLeft = false
awaits_control LeavingControl = true

-- a frame of the peer closes the multiplexer
abbrev pub is_closed_by : ℕ → Role → Connections → Closing → MuxKind → ℕ → Bool → Bool
is_closed_by dlci peer lines c Sabm n pf = false
is_closed_by dlci peer lines c Ua n pf = pf && ((n == 0) && awaits_control c)
is_closed_by dlci peer lines c Dm n pf = if n == 0 then true else if n == dlci then not (awaits_user c) else false
is_closed_by dlci peer lines c Disc n pf = pf && (((n == 0) && is_left peer lines.control) || ((n == dlci) && is_left peer lines.user))
is_closed_by dlci peer lines c Uih n pf = false

-- the connections, and how far the side is in closing
pub record Course : Type 0 where
  pub lines : Connections
  pub closing : Closing

abbrev pub no_course : Course
no_course = record { lines = no_connections; closing = NotBegun }

abbrev pub course_after : ℕ → Role → Course → Framed → Course
course_after dlci side c f = record {
  lines = connections_after dlci c.lines f;
  closing = if is_role side f.from then closing_said dlci f.frame.kind f.frame.dlci f.frame.pf c.closing else closing_heard dlci f.frame.kind f.frame.dlci f.frame.pf c.closing;
}

abbrev pub is_last : ℕ → Role → Course → Framed → Bool
is_last dlci side c f = not (is_role side f.from) && is_closed_by dlci f.from c.lines c.closing f.frame.kind f.frame.dlci f.frame.pf

-- one of the frames closes it
abbrev pub has_last : ℕ → Role → Course → List Framed → Bool
has_last dlci side c [] = false
has_last dlci side c (f ∷ fs) = is_last dlci side c f || has_last dlci side (course_after dlci side c f) fs

-- the frames up to the one that closes the multiplexer of a side, or all of them
abbrev pub to_closing : ℕ → Role → Course → List Framed → List Framed
to_closing dlci side c [] = []
to_closing dlci side c (f ∷ fs) = f ∷ (if is_last dlci side c f then [] else to_closing dlci side (course_after dlci side c f) fs)
