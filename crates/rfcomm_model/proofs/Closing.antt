-- A multiplexer that was closed stays closed.
use Rattle.std.proofs.Common.{rules, ◌≡◌, ℕ, Bool, true, false, cond, List, [], ◌∷◌, Option, Some, None, Ok, Err, ap}
use Rattle.rfcomm_frames.specs.declared.frame.MuxKind.{MuxKind}
use Rattle.rfcomm_frames.specs.declared.frame.MuxKind.TheVariants.{Sabm, Ua, Dm, Disc, Uih}
use Rattle.rfcomm_frames.specs.Frames.{PlainFrame}
use Rattle.rfcomm_frames.specs.Answers.{Answer}
use Rattle.rfcomm_frames.specs.FrameReading.{frame_answer}
use Rattle.rfcomm_model.specs.declared.state.MuxReason.{MuxReason}
use Rattle.rfcomm_model.specs.declared.state.MuxReason.TheVariants as reasons
use Rattle.rfcomm_model.specs.declared.state.Command.TheVariants.{OpenControl, Agree, OpenUser, Signal, LeaveUser, LeaveControl}
use Rattle.rfcomm_model.specs.declared.state.Asks.{Asks}
use Rattle.rfcomm_model.specs.declared.state.Asks.TheVariants.{Nothing, Due, Awaited}
use Rattle.rfcomm_model.specs.Machine.{Mux, closes, is_ready}
use Rattle.std.specs.Prelude.{◌&&◌, not}
use Rattle.rfcomm_model.specs.Hearing.{if_stands, says_dm, ends, hears_disc, hears_settled, hears_frame, hears_answer, hears, news, read_data}
use Rattle.rfcomm_model.specs.Saying.{Said, says_data, says_grant, first_of, says_command, says_answer, next}
use Rattle.rfcomm_model.specs.Sides.{Deed, Hears, Says, Sends, Leaves, Side, said_by, done, ClosedForGood}

-- a fact of a multiplexer that each branch keeps
pub keep_cond : (P : Mux → Type 0) (b : Bool) (x y : Mux) → P x → P y → P (cond b x y)
keep_cond P true x y p q = p
keep_cond P false x y p q = q

pub keep_true : (P : Mux → Type 0) (b : Bool) (x y : Mux) → b ≡ true → P x → P (cond b x y)
keep_true P true x y is p = p
keep_true P false x y is p = let never : false ≡ true = is in cc

module _ (reason : MuxReason) where
  abbrev IsShut : Mux → Type 0
  IsShut m = m.closed ≡ Some reason

  says_dm_shut : (dlci : ℕ) (m : Mux) → IsShut m → IsShut (says_dm dlci m)
  says_dm_shut dlci m shut = search rules

  ends_shut : (closed : Option MuxReason) (m : Mux) → closed ≡ Some reason → IsShut m → IsShut (ends closed m)
  ends_shut None m is shut = cc
  ends_shut (Some other) m is shut = shut

  hears_disc_shut : (dlci : ℕ) (m : Mux) → IsShut m → IsShut (hears_disc dlci m)
  hears_disc_shut dlci m shut = search (rules, ends_shut)

  settled_shut : (kind : MuxKind) (frame : PlainFrame) (m : Mux) → IsShut m → IsShut (hears_settled kind frame m)
  settled_shut Sabm frame m shut = keep_cond IsShut frame.pf (says_dm frame.dlci m) m (says_dm_shut frame.dlci m shut) shut
  settled_shut Ua frame m shut = shut
  settled_shut Dm frame m shut = shut
  settled_shut Disc frame m shut = keep_cond IsShut frame.pf (hears_disc frame.dlci m) m (hears_disc_shut frame.dlci m shut) shut
  settled_shut Uih frame m shut = shut

  frame_shut : (closed : Option MuxReason) (frame : PlainFrame) (m : Mux) → closed ≡ Some reason → IsShut m → IsShut (hears_frame closed frame m)
  frame_shut None frame m is shut = cc
  frame_shut (Some reasons.Dm) frame m is shut = settled_shut frame.kind frame m shut
  frame_shut (Some reasons.Disc) frame m is shut = settled_shut frame.kind frame m shut
  frame_shut (Some reasons.NoCreditFlow) frame m is shut = shut
  frame_shut (Some reasons.Overdrawn) frame m is shut = shut
  frame_shut (Some reasons.BadFrame) frame m is shut = shut
  frame_shut (Some reasons.CreditOverflow) frame m is shut = shut

  stands_shut : (f : Mux → Mux) (closed : Option MuxReason) (m : Mux) → closed ≡ Some reason → IsShut m → IsShut (if_stands f closed m)
  stands_shut f None m is shut = cc
  stands_shut f (Some other) m is shut = shut

  answer_shut : (a : Answer) (m : Mux) → IsShut m → IsShut (hears_answer a m)
  answer_shut (Ok frame) m shut = frame_shut m.closed frame m shut shut
  answer_shut (Err refusal) m shut = stands_shut (closes reasons.BadFrame) m.closed m shut shut

  -- what is said leaves it closed
  abbrev SaysShut : Option Said → Type 0
  SaysShut None = Unit {0}
  SaysShut (Some said) = IsShut said.after

  said_cond : (b : Bool) (x y : Option Said) → SaysShut x → SaysShut y → SaysShut (cond b x y)
  said_cond true x y p q = p
  said_cond false x y p q = q

  said_first : (a b : Option Said) → SaysShut a → SaysShut b → SaysShut (first_of a b)
  said_first None b p q = q
  said_first (Some said) b p q = p

  grant_shut : (m : Mux) → IsShut m → SaysShut (says_grant m)
  grant_shut m shut = search rules

  data_shut : (m : Mux) → IsShut m → SaysShut (says_data m)
  data_shut m shut = search rules

  command_shut : (asks : Asks) (m : Mux) → IsShut m → SaysShut (says_command asks m)
  command_shut Nothing m shut = said_first (says_grant m) (says_data m) (grant_shut m shut) (data_shut m shut)
  command_shut (Awaited command) m shut = said_first (says_grant m) (says_data m) (grant_shut m shut) (data_shut m shut)
  command_shut (Due OpenControl) m shut = shut
  command_shut (Due Agree) m shut = shut
  command_shut (Due OpenUser) m shut = shut
  command_shut (Due Signal) m shut = shut
  command_shut (Due LeaveUser) m shut = shut
  command_shut (Due LeaveControl) m shut = shut

  next_shut : (answers : List PlainFrame) (m : Mux) → IsShut m → SaysShut (says_answer answers m)
  next_shut [] m shut = command_shut m.asks m shut
  next_shut (answer ∷ rest) m shut = shut

  said_by_shut : (o : Option Said) (side : Side) → SaysShut o → IsShut side.mux → IsShut (said_by o side).mux
  said_by_shut None side said shut = shut
  said_by_shut (Some s) side said shut = said

  pub done_shut : (deed : Deed) (side : Side) → IsShut side.mux → IsShut (done deed side).mux
  done_shut (Hears sdu) side shut = answer_shut (frame_answer sdu) side.mux shut
  done_shut Says side shut = said_by_shut (next side.mux) side (next_shut side.mux.answers side.mux shut) shut
  done_shut (Sends octets) side shut = search rules
  done_shut Leaves side shut = search rules

pub closed-for_good : ClosedForGood
closed-for_good m reason is = record {
  stays = λ deed talk got. done_shut reason deed (record { mux = m; talk = talk; got = got }) is;
  silent = λ sdu. ap (λ (c : Option MuxReason). news c (hears sdu m).closed (is_ready (hears sdu m) && not (is_ready m)) (read_data (frame_answer sdu) m)) is;
}
