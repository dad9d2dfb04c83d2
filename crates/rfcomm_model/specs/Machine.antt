-- One side of a multiplexer with one user channel, as a small value (RFCOMM 1.2, 5 and 6.5; what is called this
-- project's own is where the standard leaves the choice).
use Rattle.std.specs.Prelude.{ℕ, ◌≡◌, ◌&&◌, not, nat_lt, nat_le, Bool, true, false, List, [], length, take, Option, Some, None, is_none, if◌then◌else◌}
use Rattle.rfcomm_frames.specs.declared.connection.Role.{Role}
use Rattle.rfcomm_frames.specs.declared.connection.Role.TheVariants.{Initiator, Responder}
use Rattle.rfcomm_frames.specs.declared.connection.Dlc.{Dlc}
use Rattle.rfcomm_frames.specs.declared.connection.Dlc.TheVariants.{Idle}
use Rattle.rfcomm_frames.specs.Frames.{PlainFrame}
use Rattle.rfcomm_frames.specs.FrameReading.{is_empty}
use Rattle.rfcomm_frames.specs.Connections.{is_open, is_ended}
use Rattle.rfcomm_credits.specs.Accounts.{Credits}
use Rattle.rfcomm_model.specs.declared.state.MuxReason.{MuxReason}
use Rattle.rfcomm_model.specs.declared.state.Command.TheVariants.{OpenControl, Agree, OpenUser, Signal, LeaveUser, LeaveControl}
use Rattle.rfcomm_model.specs.declared.state.Asks.{Asks}
use Rattle.rfcomm_model.specs.declared.state.Asks.TheVariants.{Nothing, Due, Awaited}
use Rattle.rfcomm_model.specs.declared.state.Readiness.{Readiness}
use Rattle.rfcomm_model.specs.declared.state.Readiness.TheVariants.{Neither, Own, Peer, Both}

pub record Mux : Type 0 where
  -- the side, the DLCI of its user channel, and the largest own frame size that there is room for
  pub role : Role
  pub dlci : ℕ
  pub largest : ℕ
  -- the own frame size, and the one that counts: the own one until one was agreed
  pub own : ℕ
  pub frame : ℕ
  -- a frame size was agreed; the own initial credits were stated to the peer
  pub agreed : Bool
  pub stated : Bool
  pub control : Dlc
  pub user : Dlc
  pub asks : Asks
  pub ready : Readiness
  pub account : Credits
  -- the answers that wait to be sent, and the information of the data frame that waits
  pub answers : List PlainFrame
  pub waiting : List ℕ
  pub closed : Option MuxReason

-- ---- making one

-- the initial credits of the peer: PN has three bits for them (RFCOMM 1.2, 5.5.3)
abbrev pub first_credits : ℕ → ℕ
first_credits cap = if nat_le cap 7 then cap else 7

-- the initiator begins to open; the responder waits
abbrev pub first_asks : Role → Asks
first_asks Initiator = Due OpenControl
first_asks Responder = Nothing

abbrev pub new_mux : Role → (dlci largest own cap : ℕ) → Mux
new_mux role dlci largest own cap = record {
  role = role;
  dlci = dlci;
  largest = largest;
  own = own;
  frame = own;
  agreed = false;
  stated = false;
  control = Idle;
  user = Idle;
  asks = first_asks role;
  ready = Neither;
  account = record { cap = cap; held = 0; peer = first_credits cap };
  answers = [];
  waiting = [];
  closed = None;
}

-- as it was made, with this frame size
abbrev pub reset : ℕ → Mux → Mux
reset own m = new_mux m.role m.dlci m.largest own m.account.cap

-- ---- what it may do

abbrev pub is_both : Readiness → Bool
is_both Neither = false
is_both Own = false
is_both Peer = false
is_both Both = true

-- octets of the user channel may pass: it is open, and the multiplexer was not closed
abbrev pub may_pass : Mux → Bool
may_pass m = is_none m.closed && (is_open m.user && not (is_ended m.control))

-- and both MSC commands were answered
abbrev pub is_ready : Mux → Bool
is_ready m = is_both m.ready && may_pass m

-- ---- sending octets

-- so many octets are taken for the next data frame: none where one waits or no credit is held
abbrev pub taken_count : ℕ → Mux → ℕ
taken_count size m = if is_empty m.waiting && nat_lt 0 m.account.held then (if nat_le size m.frame then size else m.frame) else 0

abbrev pub sends : List ℕ → Mux → Mux
sends octets m = if is_empty m.waiting && nat_lt 0 m.account.held then record m { waiting = take (taken_count (length octets) m) octets } else m

-- ---- closing

abbrev pub is_leaving : Asks → Bool
is_leaving Nothing = false
is_leaving (Due OpenControl) = false
is_leaving (Due Agree) = false
is_leaving (Due OpenUser) = false
is_leaving (Due Signal) = false
is_leaving (Due LeaveUser) = true
is_leaving (Due LeaveControl) = true
is_leaving (Awaited OpenControl) = false
is_leaving (Awaited Agree) = false
is_leaving (Awaited OpenUser) = false
is_leaving (Awaited Signal) = false
is_leaving (Awaited LeaveUser) = true
is_leaving (Awaited LeaveControl) = true

-- DISC on the user channel goes next, in any state; the one on the control channel follows its answer
abbrev pub leaves : Mux → Mux
leaves m = if is_none m.closed && not (is_leaving m.asks) then record m { asks = Due LeaveUser } else m

-- it is closed for good: it asks for nothing more and sends no data
abbrev pub closes : MuxReason → Mux → Mux
closes reason m = record m { asks = Nothing; waiting = []; closed = Some reason }

-- ---- what never changes

-- the side, the channel, the room and the credits that the peer is to have
abbrev pub Kept : Role → (dlci largest cap : ℕ) → Mux → Type 0
Kept role dlci largest cap m = (m.role ≡ role) × (m.dlci ≡ dlci) × (m.largest ≡ largest) × (m.account.cap ≡ cap)
