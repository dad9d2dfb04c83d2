-- What a multiplexer sends next: an answer, then an own command, then a grant, then a data frame.
use Rattle.std.specs.Prelude.{ℕ, ◌+◌, ◌-◌, ◌*◌, ◌==◌, ◌&&◌, not, nat_lt, Bool, true, List, [], ◌∷◌, Option, Some, None, if◌then◌else◌}
use Rattle.rfcomm_frames.specs.declared.frame.MuxKind.{MuxKind}
use Rattle.rfcomm_frames.specs.declared.frame.MuxKind.TheVariants.{Sabm, Disc}
use Rattle.rfcomm_frames.specs.declared.connection.Role.{Role}
use Rattle.rfcomm_frames.specs.declared.connection.Dlc.{Dlc}
use Rattle.rfcomm_frames.specs.Frames.{PlainFrame}
use Rattle.rfcomm_frames.specs.FrameReading.{is_empty}
use Rattle.rfcomm_frames.specs.Controls.{pn, msc}
use Rattle.rfcomm_frames.specs.Connections.{turned}
use Rattle.rfcomm_credits.specs.Accounts.{grant_of}
use Rattle.rfcomm_model.specs.declared.state.Command.{Command}
use Rattle.rfcomm_model.specs.declared.state.Command.TheVariants.{OpenControl, Agree, OpenUser, Signal, LeaveUser, LeaveControl}
use Rattle.rfcomm_model.specs.declared.state.Asks.{Asks}
use Rattle.rfcomm_model.specs.declared.state.Asks.TheVariants.{Nothing, Due, Awaited}
use Rattle.rfcomm_model.specs.Written.{command_frame, control_frame, grant_frame, data_frame}
use Rattle.rfcomm_model.specs.Machine.{Mux, may_pass, is_ready}
use Rattle.rfcomm_model.specs.Hearing.{own_credits}

-- the frame that is sent, and what the multiplexer is then
pub record Said : Type 0 where
  pub frame : PlainFrame
  pub after : Mux

-- its own frames count for its connections
abbrev pub passed_on : Role → MuxKind → Bool → Dlc → Dlc
passed_on role kind pf dlc = if pf then turned role kind dlc else dlc

abbrev pub passes : ℕ → MuxKind → Bool → Mux → Mux
passes dlci kind pf m = record m {
  control = if dlci == 0 then passed_on m.role kind pf m.control else m.control;
  user = if dlci == m.dlci then passed_on m.role kind pf m.user else m.user;
}

abbrev pub says : PlainFrame → Mux → Said
says frame after = record { frame = frame; after = passes frame.dlci frame.kind frame.pf after }

-- ---- own commands

abbrev pub frame_of_command : Command → Mux → PlainFrame
frame_of_command OpenControl m = command_frame m.role Sabm 0
frame_of_command Agree m = control_frame m.role (pn true m.dlci 0xF0 0 0 m.own 0 (own_credits m))
frame_of_command OpenUser m = command_frame m.role Sabm m.dlci
-- ready to communicate, ready to receive, and data valid (TS 07.10, 5.4.6.3.7)
frame_of_command Signal m = control_frame m.role (msc true (4 * m.dlci + 3) 0x8D)
frame_of_command LeaveUser m = command_frame m.role Disc m.dlci
frame_of_command LeaveControl m = command_frame m.role Disc 0

abbrev pub commanded : Command → Mux → Mux
commanded OpenControl m = record m { asks = Awaited OpenControl }
commanded Agree m = record m { asks = Awaited Agree; stated = true }
commanded OpenUser m = record m { asks = Awaited OpenUser }
commanded Signal m = record m { asks = Awaited Signal }
commanded LeaveUser m = record m { asks = Awaited LeaveUser }
commanded LeaveControl m = record m { asks = Awaited LeaveControl }

-- ---- the next frame

-- information costs a credit, and goes once both MSC commands were answered
abbrev pub says_data : Mux → Option Said
says_data m =
    if is_ready m && (not (is_empty m.waiting) && nat_lt 0 m.account.held)
    then Some (says (data_frame m.role m.dlci m.waiting) (record m { waiting = []; account = record { cap = m.account.cap; held = m.account.held - 1; peer = m.account.peer } }))
    else None

-- a grant goes as soon as there is one and the user channel is open
abbrev pub says_grant : Mux → Option Said
says_grant m =
    if may_pass m && nat_lt 0 (grant_of m.account)
    then Some (says (grant_frame m.role m.dlci (grant_of m.account)) (record m { account = record { cap = m.account.cap; held = m.account.held; peer = m.account.peer + grant_of m.account } }))
    else None

abbrev pub first_of : Option Said → Option Said → Option Said
first_of None second = second
first_of (Some said) second = Some said

abbrev pub says_command : Asks → Mux → Option Said
says_command Nothing m = first_of (says_grant m) (says_data m)
says_command (Due command) m = Some (says (frame_of_command command m) (commanded command m))
says_command (Awaited command) m = first_of (says_grant m) (says_data m)

abbrev pub says_answer : List PlainFrame → Mux → Option Said
says_answer [] m = says_command m.asks m
says_answer (answer ∷ rest) m = Some (says answer (record m { answers = rest }))

abbrev pub next : Mux → Option Said
next m = says_answer m.answers m

-- what it is after its next frame, if it has one
abbrev pub after_said : Option Said → Mux → Mux
after_said None m = m
after_said (Some said) m = said.after

abbrev pub after_next : Mux → Mux
after_next m = after_said (next m) m
